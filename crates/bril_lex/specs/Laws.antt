-- Laws of cutting a source into tokens.
use Rattle.std.specs.Prelude.{◌≡◌, ℕ, ◌⊎◌, List, []}
use Rattle.std.specs.Str.{IsUtf8}
use Rattle.bril_lex.specs.Cut.{AreTokens, StopsAt}
use Rattle.bril_lex.specs.Printed.{Spaced, AreApart, IsCutIntoItself}
use Rattle.bril_lex.specs.declared.token.Token.{Token}

-- the source has tokens, or stops at a position
abbrev pub CutsOrStops : List ℕ → Type 0
CutsOrStops source = ((tokens : List Token) × AreTokens source tokens) ⊎ ((at : ℕ) × StopsAt source at)

-- each source is cut in one way: it has one list of tokens, or stops at one position, and never both
pub record CutsInOneWay : Type 0 where
  pub either : (source : List ℕ) → CutsOrStops source
  pub tokens : (source : List ℕ) (a b : List Token) → AreTokens source a → AreTokens source b → a ≡ b
  pub stops : (source : List ℕ) (a b : ℕ) → StopsAt source a → StopsAt source b → a ≡ b
  pub never_both : (source : List ℕ) (ts : List Token) (at : ℕ) → AreTokens source ts → StopsAt source at → ⊥

-- a source that has tokens is UTF-8
abbrev pub CutSourcesAreUtf8 : Type 0
CutSourcesAreUtf8 = (source : List ℕ) (tokens : List Token) → AreTokens source tokens → IsUtf8 source

-- printed tokens that what follows doesn't continue, with blanks or none after each, are cut into themselves
abbrev pub PrintedIsCutIntoItself : Type 0
PrintedIsCutIntoItself = (spaced : List Spaced) → AreApart spaced [] → IsCutIntoItself spaced
