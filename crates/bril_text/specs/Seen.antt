-- The terminals of the code as those of the grammar.
use Rattle.std.specs.Prelude.{◌≡◌, ℕ, suc, ◌⊎◌, Option, Some, None, ◌&&◌, ◌==◌, if◌then◌else◌, slice_index, List, [], ◌∷◌, length, IsTrue}
use Rattle.std.specs.Char.{IsScalar, encode_utf8}
use Rattle.std.specs.Str.{IsUtf8}
use Rattle.bril_tree.specs.Identifier.{is_identifier}
use Rattle.bril_tree.specs.Path.{IsImportPath}
use Rattle.bril_lex.specs.Lexeme.{Lexeme}
use Rattle.bril_lex.specs.Spelling.{escaped}
use Rattle.bril_grammar.specs.Terminal.{Terminal, path_terminal, terminals_of}
use Rattle.bril_text.specs.declared.terminal.TerminalRef.{TerminalRef}
use Rattle.bril_text.specs.declared.terminal.TerminalRef.TheVariants as ref

-- the terminal of the grammar
abbrev pub seen : TerminalRef → Terminal
seen (ref.Name text) = Terminal.Name text.now
seen (ref.Function name) = Terminal.Function name.now
seen (ref.Label name) = Terminal.Label name.now
seen (ref.Number value) = Terminal.Number value
seen ref.Float = Terminal.Float
seen (ref.Char value) = Terminal.Char value
seen (ref.Path path) = path_terminal path.now
seen (ref.Mark mark) = Terminal.Punctuation mark

-- its names are identifiers, and its path is one that an import may name
abbrev pub IsWhole : TerminalRef → Type 0
IsWhole (ref.Name text) = IsTrue (is_identifier text.now)
IsWhole (ref.Function name) = IsTrue (is_identifier name.now)
IsWhole (ref.Label name) = IsTrue (is_identifier name.now)
IsWhole (ref.Path path) = IsImportPath path.now
IsWhole _ = Unit {0}

-- the first terminal, and those after it
pub record Splits (terminals : List Lexeme) (terminal : TerminalRef) (rest : List Lexeme) : Type 0 where
  pub first : terminals_of terminals ≡ seen terminal ∷ terminals_of rest
  pub longer : length terminals ≡ suc (length rest)
  pub whole : IsWhole terminal

-- one scalar value in UTF-8
abbrev pub IsScalarText : List ℕ → Type 0
IsScalarText text = (value : ℕ) × (text ≡ encode_utf8 value) × IsScalar value

-- what comes between the quotes of a char literal: an escape, or a scalar value in UTF-8
abbrev pub IsInsideChar : List ℕ → Type 0
IsInsideChar text =
    ((letter : ℕ) × (value : ℕ) × (text ≡ 92 ∷ letter ∷ []) × (escaped letter ≡ Some value))
    ⊎ IsScalarText text

-- the character of an escape, where the text is `\` and the letter of one
abbrev pub escape_of : List ℕ → Option ℕ
escape_of text = if (length text == 2) && (slice_index text 0 == 92) then escaped (slice_index text 1) else None

-- what comes between the quotes of a path
abbrev pub IsInsidePath : List ℕ → Type 0
IsInsidePath path = IsUtf8 path × IsImportPath path
