-- Texts of one char.
use Rattle.std.proofs.Common.{◌≡◌, ℕ, List, [], ◌++◌, length, sym, ap, ◌∙◌, append-nil, arith}
use Rattle.std.specs.Prelude.{encode_utf8}
use Rattle.std.proofs.lemmas.Str.{encode_same, length-encode, len_utf8_bounds}

-- a char takes a byte at least
pub no_letter : (text : List ℕ) (c : ℕ) → length text ≡ 0 → text ≡ encode_utf8 c → ⊥
no_letter text c empty is = omega (arith, empty, ap length is, length-encode c, len_utf8_bounds c)

-- a text that is one char begins with no other, and nothing follows
pub one_letter : (text rest : List ℕ) (first c : ℕ) → text ≡ encode_utf8 first ++ rest → text ≡ encode_utf8 c → (first ≡ c) × (rest ≡ [])
one_letter text rest first c begins is = encode_same first c rest [] (sym begins ∙ is ∙ sym (append-nil (encode_utf8 c)))
