-- A token by what it spells.
use Rattle.std.specs.Prelude.{ℕ, List, slice_range, map}
use Rattle.bril_lex.specs.declared.token.Kind.{Kind}
use Rattle.bril_lex.specs.declared.token.Token.{Token}

-- a token's kind and its bytes
pub record Lexeme : Type 0 where
  pub kind : Kind
  pub text : List ℕ

-- what a token of a source spells
abbrev pub lexeme_of : List ℕ → Token → Lexeme
lexeme_of source t = record { kind = t.kind; text = slice_range source t.from t.to }

abbrev pub lexemes_of : List ℕ → List Token → List Lexeme
lexemes_of source ts = map (lexeme_of source) ts
