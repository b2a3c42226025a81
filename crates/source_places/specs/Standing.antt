-- Where functions and items begin in a source, by the grammar.
use Rattle.std.specs.Prelude.{◌≡◌, ℕ, List, [], ◌∷◌, ◌++◌, length, drop}
use Rattle.std.specs.List.{flat_map}
use Rattle.bril_lex.specs.Cut.{AreTokens}
use Rattle.bril_lex.specs.Lexeme.{lexemes_of}
use Rattle.bril_lex.specs.declared.token.Token.{Token}
use Rattle.bril_grammar.specs.declared.mark.Mark.TheVariants.{OpenBrace}
use Rattle.bril_grammar.specs.Terminal.{Terminal, terminals_of}
use Rattle.bril_grammar.specs.Written.{Line, Source, Written, args_terminals, function_terminals, import_terminals, line_terminals, ret_terminals, source_terminals}
use Rattle.bril_text.specs.Reading.{position_of}

-- a function up to its brace, with it
abbrev pub head_terminals : Written → List Terminal
head_terminals f = Terminal.Function f.name ∷ (args_terminals f.args ++ (ret_terminals f.ret ++ (Terminal.Punctuation OpenBrace ∷ [])))

-- these terminals stand before the function of a number: those of the imports, and of the functions before it
pub record BeforeFunction (w : Source) (func : ℕ) (before : List Terminal) : Type 0 where
  pub functions : List Written
  pub f : Written
  pub more : List Written
  pub all : w.functions ≡ functions ++ (f ∷ more)
  pub number : length functions ≡ func
  pub are : before ≡ flat_map import_terminals w.imports ++ flat_map function_terminals functions

-- these terminals stand before an item of it: those before the function, its own up to its brace, and those of the items before
pub record BeforeItem (w : Source) (func item : ℕ) (before : List Terminal) : Type 0 where
  pub front : List Terminal
  pub function : BeforeFunction w func front
  pub lines : List Line
  pub more : List Line
  pub all : function.f.lines ≡ lines ++ more
  pub number : length lines ≡ item
  pub are : before ≡ front ++ (head_terminals function.f ++ flat_map line_terminals lines)

-- Where the source is a program, as it is written, in which these terminals stand before something, it begins at this byte.
abbrev pub BeginsAt : List ℕ → (Source → List Terminal → Type 0) → ℕ → Type 0
BeginsAt source StandBefore at = (tokens : List Token) → AreTokens source tokens
    → (w : Source) → terminals_of (lexemes_of source tokens) ≡ source_terminals w
    → (before : List Terminal) → StandBefore w before
    → at ≡ position_of source (drop (length before) tokens)

-- the function of a number begins at this byte
abbrev pub IsFunctionAt : List ℕ → ℕ → ℕ → Type 0
IsFunctionAt source func at = BeginsAt source (λ w before. BeforeFunction w func before) at

-- an item of the function of a number begins at this byte
abbrev pub IsItemAt : List ℕ → ℕ → ℕ → ℕ → Type 0
IsItemAt source func item at = BeginsAt source (λ w before. BeforeItem w func item before) at
