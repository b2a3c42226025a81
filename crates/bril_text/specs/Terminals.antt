-- Tokens of a source.
use Rattle.std.specs.Prelude.{ℕ, ◌≤◌, List, length, slice_range}
use Rattle.bril_lex.specs.declared.token.Token.{Token}
use Rattle.bril_lex.specs.Spelling.{IsTokenOf}

-- the token's span is in the source, and its text is a token of its kind
pub record IsTokenIn (source : List ℕ) (t : Token) : Type 0 where
  pub forward : t.from ≤ t.to
  pub inside : t.to ≤ length source
  pub spelled : IsTokenOf t.kind (slice_range source t.from t.to)
