-- How the tokens of Bril's text form are spelled.
use Rattle.std.specs.Prelude.{◌≡◌, ◌≢◌, ℕ, ◌⊎◌, Bool, ◌&&◌, ◌||◌, ◌==◌, nat_lt, IsTrue, List, [], ◌∷◌, ◌++◌, length, Option, Some, None, if◌then◌else◌, codes}
use Rattle.std.specs.List.{list_all, list_any}
use Rattle.std.specs.Char.{IsScalar, encode_utf8, is_ascii_alphabetic, is_ascii_digit}
use Rattle.std.specs.Str.{IsUtf8, all_ascii_digits}
use Rattle.std.specs.Str.Parse.{without_leading_sign}
use Rattle.bril_tree.specs.Identifier.{is_identifier}
use Rattle.bril_tree.specs.Path.{IsImportPath}
use Rattle.bril_lex.specs.declared.token.Kind.{Kind}
use Rattle.bril_lex.specs.declared.token.Kind.TheVariants.{Identifier, Function, Label, Number, Float, Char, Path, Mark}

-- one of `{ } ( ) : , ; = < >`
abbrev pub is_mark : ℕ → Bool
is_mark byte = list_any (λ mark. mark == byte) (codes "{}():,;=<>")

-- space, tab, CR or LF
abbrev pub is_blank : ℕ → Bool
is_blank byte = list_any (λ blank. blank == byte) (32 ∷ 9 ∷ 13 ∷ 10 ∷ [])

-- an optional sign, then one or more digits
abbrev pub is_number : List ℕ → Bool
is_number text = nat_lt 0 (length (without_leading_sign text)) && all_ascii_digits (without_leading_sign text)

-- `.`, `e` or `E`: a number before it is a float
abbrev pub makes_float : ℕ → Bool
makes_float byte = list_any (λ maker. maker == byte) (codes ".eE")

-- an ASCII letter, a digit, `.`, `+` or `-`
abbrev pub continues_float : ℕ → Bool
continues_float byte = (is_ascii_alphabetic byte || is_ascii_digit byte) || list_any (λ sign. sign == byte) (codes ".+-")

-- a number, then `.`, `e` or `E`, then any bytes that continue a float
pub record IsFloat (text : List ℕ) : Type 0 where
  pub number : List ℕ
  pub maker : ℕ
  pub more : List ℕ
  pub spelled : text ≡ number ++ (maker ∷ more)
  pub is_number : IsTrue (is_number number)
  pub makes_float : IsTrue (makes_float maker)
  pub continues : IsTrue (list_all continues_float more)

-- the character that `\` and a letter of `0abtnvfr` stand for
abbrev pub escaped : ℕ → Option ℕ
escaped letter =
    if letter == 48 then Some 0
    else (if letter == 97 then Some 7
    else (if letter == 98 then Some 8
    else (if letter == 116 then Some 9
    else (if letter == 110 then Some 10
    else (if letter == 118 then Some 11
    else (if letter == 102 then Some 12
    else (if letter == 114 then Some 13
    else None)))))))

-- `'`, `\`, the letter of an escape, `'`
pub record IsEscape (character : ℕ) (text : List ℕ) : Type 0 where
  pub letter : ℕ
  pub spelled : text ≡ 39 ∷ 92 ∷ letter ∷ 39 ∷ []
  pub stands_for : escaped letter ≡ Some character

-- `'`, one scalar value other than LF in UTF-8, `'`
pub record IsPlainChar (character : ℕ) (text : List ℕ) : Type 0 where
  pub spelled : text ≡ 39 ∷ (encode_utf8 character ++ (39 ∷ []))
  pub scalar : IsScalar character
  pub no_line_end : character ≢ 10

-- a char literal and its scalar value
abbrev pub SpellsChar : ℕ → List ℕ → Type 0
SpellsChar character text = IsEscape character text ⊎ IsPlainChar character text

-- a path between double quotes
pub record SpellsPath (path text : List ℕ) : Type 0 where
  pub spelled : text ≡ 34 ∷ (path ++ (34 ∷ []))
  pub is_path : IsImportPath path
  pub is_utf8 : IsUtf8 path

-- a byte and then an identifier
abbrev pub IsNamed : ℕ → List ℕ → Type 0
IsNamed first text = (name : List ℕ) × (text ≡ first ∷ name) × IsTrue (is_identifier name)

-- the text is a token of the kind
abbrev pub IsTokenOf : Kind → List ℕ → Type 0
IsTokenOf Identifier text = IsTrue (is_identifier text)
IsTokenOf Function text = IsNamed 64 text
IsTokenOf Label text = IsNamed 46 text
IsTokenOf Number text = IsTrue (is_number text)
IsTokenOf Float text = IsFloat text
IsTokenOf Char text = (character : ℕ) × SpellsChar character text
IsTokenOf Path text = (path : List ℕ) × SpellsPath path text
IsTokenOf Mark text = (mark : ℕ) × (text ≡ mark ∷ []) × IsTrue (is_mark mark)
