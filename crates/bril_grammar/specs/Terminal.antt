-- The terminals of the grammar: the class and the value of a lexeme.
use Rattle.std.specs.Prelude.{ℕ, ◌-◌, ℤ, ◌==◌, List, [], ◌∷◌, map, length, drop, Option, Some, None, if◌then◌else◌, slice_range, slice_index, unwrap_or}
use Rattle.std.specs.Str.{chars}
use Rattle.bril_lex.specs.declared.token.Kind.{Kind}
use Rattle.bril_lex.specs.declared.token.Kind.TheVariants as kind
use Rattle.bril_lex.specs.Lexeme.{Lexeme}
use Rattle.bril_lex.specs.Spelling.{escaped}
use Rattle.bril_nums.specs.Decimal.{int_of}
use Rattle.bril_tree.specs.Path.{ImportPath, import_path}
use Rattle.bril_grammar.specs.declared.mark.Mark.{Mark}
use Rattle.bril_grammar.specs.declared.mark.Mark.TheVariants.{OpenBrace, CloseBrace, OpenParen, CloseParen, Colon, Comma, Semicolon, Equals, Less, Greater}

-- An identifier by its text; a function and a label by their names, without `@` and `.`; a number by its value where
-- that is an int of 64 bits; a char by its scalar value.
pub data Terminal : Type 0 where
  Name : (text : List ℕ) → Terminal
  Function : (name : List ℕ) → Terminal
  Label : (name : List ℕ) → Terminal
  Number : (value : Option ℤ) → Terminal
  Float : Terminal
  Char : (value : ℕ) → Terminal
  Path : (path : ImportPath) → Terminal
  Punctuation : (mark : Mark) → Terminal
  Other : Terminal

-- the byte of a mark
abbrev pub mark_byte : Mark → ℕ
mark_byte OpenBrace = 123
mark_byte CloseBrace = 125
mark_byte OpenParen = 40
mark_byte CloseParen = 41
mark_byte Colon = 58
mark_byte Comma = 44
mark_byte Semicolon = 59
mark_byte Equals = 61
mark_byte Less = 60
mark_byte Greater = 62

abbrev pub marks : List Mark
marks = OpenBrace ∷ CloseBrace ∷ OpenParen ∷ CloseParen ∷ Colon ∷ Comma ∷ Semicolon ∷ Equals ∷ Less ∷ Greater ∷ []

-- the mark with this byte
abbrev pub mark_among : List Mark → ℕ → Terminal
mark_among [] byte = Other
mark_among (m ∷ ms) byte = if byte == mark_byte m then Punctuation m else mark_among ms byte

abbrev pub mark_terminal : List ℕ → Terminal
mark_terminal [] = Other
mark_terminal (byte ∷ []) = mark_among marks byte
mark_terminal (byte ∷ next ∷ rest) = Other

-- the first scalar value that the bytes spell in UTF-8
abbrev pub scalar_at_front : List ℕ → ℕ
scalar_at_front bytes = slice_index (chars bytes) 0

-- the scalar value between the quotes of a char literal: an escape's, or its own
abbrev pub char_value : List ℕ → ℕ
char_value [] = scalar_at_front []
char_value (byte ∷ []) = scalar_at_front (byte ∷ [])
char_value (byte ∷ letter ∷ []) =
    let own = scalar_at_front (byte ∷ letter ∷ []) in
    if byte == 92 then unwrap_or (escaped letter) own else own
char_value (byte ∷ next ∷ third ∷ rest) = scalar_at_front (byte ∷ next ∷ third ∷ rest)

-- the text without its first and its last byte
abbrev pub inside : List ℕ → List ℕ
inside text = slice_range text 1 (length text - 1)

-- the terminal of a path, where an import may name it
abbrev pub path_or_other : Option ImportPath → Terminal
path_or_other None = Other
path_or_other (Some path) = Path path

abbrev pub path_terminal : List ℕ → Terminal
path_terminal path = path_or_other (import_path path)

abbrev pub terminal_as : Kind → List ℕ → Terminal
terminal_as kind.Identifier text = Name text
terminal_as kind.Function text = Function (drop 1 text)
terminal_as kind.Label text = Label (drop 1 text)
terminal_as kind.Number text = Number (int_of text)
terminal_as kind.Float text = Float
terminal_as kind.Char text = Char (char_value (inside text))
terminal_as kind.Path text = path_terminal (inside text)
terminal_as kind.Mark text = mark_terminal text

abbrev pub terminal_of : Lexeme → Terminal
terminal_of lexeme = terminal_as lexeme.kind lexeme.text

abbrev pub terminals_of : List Lexeme → List Terminal
terminals_of lexemes = map terminal_of lexemes
