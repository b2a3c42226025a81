-- What comes between the quotes of a char.
use Rattle.std.proofs.Common.{◌≡◌, ℕ, ◌<◌, List, length, Some, None, sym, ap, ◌∙◌, subst, inl, inr, arith}
use Rattle.std.specs.Str.{IsUtf8}
use Rattle.std.proofs.lemmas.Str.{IsUtf8-encode, length-encode, len_utf8_bounds}
use Rattle.bril_text.specs.Seen.{IsScalarText, IsInsideChar, escape_of}

pub IsScalarText-utf8 : (text : List ℕ) → IsScalarText text → IsUtf8 text
IsScalarText-utf8 text s = subst IsUtf8 (sym s.1) (IsUtf8-encode s.0 s.2)

pub IsScalarText-some : (text : List ℕ) → IsScalarText text → 0 < length text
IsScalarText-some text s = omega (arith, ap length s.1, length-encode s.0, len_utf8_bounds s.0)

-- what is no escape is a scalar value
pub no_escape : (text : List ℕ) → IsInsideChar text → escape_of text ≡ None → IsScalarText text
no_escape text (inl h) none =
    let stands : escape_of text ≡ Some h.1 = ap escape_of h.2 ∙ h.3 in
    absurd cc
no_escape text (inr h) none = h
