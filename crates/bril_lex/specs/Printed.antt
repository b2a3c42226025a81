-- Tokens as they are printed, with blanks between them.
use Rattle.std.specs.Prelude.{◌≡◌, ℕ, Bool, true, false, not, ◌||◌, IsTrue, List, [], ◌∷◌, ◌++◌, map}
use Rattle.std.specs.List.{list_all}
use Rattle.std.specs.Char.{is_ascii_digit}
use Rattle.bril_tree.specs.Identifier.{continues_identifier}
use Rattle.bril_lex.specs.Cut.{AreTokens}
use Rattle.bril_lex.specs.Lexeme.{Lexeme, lexemes_of}
use Rattle.bril_lex.specs.Spelling.{IsTokenOf, is_blank, makes_float, continues_float}
use Rattle.bril_lex.specs.declared.token.Token.{Token}
use Rattle.bril_lex.specs.declared.token.Kind.{Kind}
use Rattle.bril_lex.specs.declared.token.Kind.TheVariants.{Identifier, Function, Label, Number, Float, Char, Path, Mark}

-- a byte that may continue a token of the kind
abbrev pub continues : Kind → ℕ → Bool
continues Identifier byte = continues_identifier byte
continues Function byte = continues_identifier byte
continues Label byte = continues_identifier byte
continues Number byte = is_ascii_digit byte || makes_float byte
continues Float byte = continues_float byte
continues Char byte = false
continues Path byte = false
continues Mark byte = false

-- the bytes don't continue a token of the kind
abbrev pub ends_before : Kind → List ℕ → Bool
ends_before kind [] = true
ends_before kind (byte ∷ bytes) = not (continues kind byte)

-- a token and the blanks after it
pub record Spaced : Type 0 where
  pub lexeme : Lexeme
  pub blanks : List ℕ

-- the bytes of tokens and blanks
abbrev pub printed : List Spaced → List ℕ
printed [] = []
printed (spaced ∷ more) = spaced.lexeme.text ++ (spaced.blanks ++ printed more)

-- where these bytes follow, each is a token of its kind with blanks after it, and what comes next doesn't continue it
abbrev pub AreApart : List Spaced → List ℕ → Type 0
AreApart [] following = Unit {0}
AreApart (spaced ∷ more) following =
    IsTokenOf spaced.lexeme.kind spaced.lexeme.text
    × IsTrue (list_all is_blank spaced.blanks)
    × IsTrue (ends_before spaced.lexeme.kind (spaced.blanks ++ (printed more ++ following)))
    × AreApart more following

-- what is printed has tokens, and they spell what was printed
pub record IsCutIntoItself (spaced : List Spaced) : Type 0 where
  pub tokens : List Token
  pub are : AreTokens (printed spaced) tokens
  pub spell : lexemes_of (printed spaced) tokens ≡ map (λ (s : Spaced). s.lexeme) spaced
