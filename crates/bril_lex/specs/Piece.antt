-- The pieces that a source is cut into, and the longest rule.
use Rattle.std.specs.Prelude.{◌≡◌, ◌≤◌, ℕ, Bool, IsTrue, not, ◌==◌, List, [], ◌∷◌, ◌++◌, length}
use Rattle.std.specs.List.{list_all}
use Rattle.std.specs.Str.{IsUtf8}
use Rattle.bril_lex.specs.Spelling.{IsTokenOf, is_blank}
use Rattle.bril_lex.specs.declared.class.Class.{Class}
use Rattle.bril_lex.specs.declared.class.Class.TheVariants.{OfKind, Blank, Comment}

-- not LF
abbrev pub stays_in_line : ℕ → Bool
stays_in_line byte = not (byte == 10)

-- `#` and UTF-8 without LF
pub record IsComment (text : List ℕ) : Type 0 where
  pub body : List ℕ
  pub spelled : text ≡ 35 ∷ body
  pub is_utf8 : IsUtf8 body
  pub one_line : IsTrue (list_all stays_in_line body)

-- the text is a token of the kind, one blank, or a comment
abbrev pub IsPiece : Class → List ℕ → Type 0
IsPiece (OfKind kind) text = IsTokenOf kind text
IsPiece Blank text = (blank : ℕ) × (text ≡ blank ∷ []) × IsTrue (is_blank blank)
IsPiece Comment text = IsComment text

-- where the rest follows, the text is a piece of the class, and no piece of any class that begins there is longer
pub record IsFront (class : Class) (text rest : List ℕ) : Type 0 where
  pub fits : IsPiece class text
  pub longest : (other : Class) (piece after : List ℕ) → text ++ rest ≡ piece ++ after → IsPiece other piece → length piece ≤ length text

-- no piece of any class begins the bytes
abbrev pub BeginsNothing : List ℕ → Type 0
BeginsNothing bytes = (class : Class) (piece after : List ℕ) → bytes ≡ piece ++ after → IsPiece class piece → ⊥
