-- What is left of a number in 64 bits.
use Rattle.std.proofs.Common.{◌≡◌, ℕ, suc, ◌+◌, ◌-◌, ◌/◌, ◌%◌, ◌^◌, ◌<◌, ◌≤◌, ℤ, pos, negsuc, ◌+ℤ◌, ◌*ℤ◌, neg_ℤ, unsigned_abs, refl, sym, ap, ◌∙◌, arith, false, ⊎_elim, ltb}
use Rattle.std.proofs.lemmas.Bool.{cases_lt}
use Rattle.std.specs.Int.{int_wrap, w64, cast_signed, cast_unsigned}
use Rattle.std.proofs.lemmas.Int.{ints, int_wrap_fits, int_wrap-add_right, int_wrap-mul_right, SFits-int_wrap, to_z_pos}
use Rattle.std.proofs.lemmas.Bool.Decides.{nat_tests}
use Rattle.bril_nums.specs.Arith.{IsWrapped}

by_lt : {P : Type 0} (a b : ℕ) → (a < b → P) → (b ≤ a → P) → P
by_lt a b f g = ⊎_elim f g (cases_lt a b)

wrap_pos : (n : ℕ) → int_wrap w64 (pos n) ≡ cast_signed w64 (n % 2 ^ 64)
unfolding int_wrap
wrap_pos n = refl

wrap_negsuc : (n : ℕ) → int_wrap w64 (negsuc n) ≡ cast_signed w64 (2 ^ 64 - 1 - n % 2 ^ 64)
unfolding int_wrap
wrap_negsuc n = refl

cast_high : (m : ℕ) → 2 ^ 63 ≤ m → cast_signed w64 m ≡ negsuc (2 ^ 64 - suc m)
cast_high m h = let t : ltb m (2 ^ 63) ≡ false = grind (arith, nat_tests) in rw t

-- the multiple of 2 ^ 64 by which the wrapped number differs
turns_of : (z : ℤ) → (k : ℤ) × (int_wrap w64 z ≡ z +ℤ (k *ℤ pos (2 ^ 64)))
turns_of (pos n) = by_lt (n % 2 ^ 64) (2 ^ 63) (λ h. (neg_ℤ (pos (n / 2 ^ 64)), wrap_pos n ∙ to_z_pos w64 (n % 2 ^ 64) h ∙ omega (arith, ints)))
    (λ h. (neg_ℤ (pos (n / 2 ^ 64 + 1)), wrap_pos n ∙ cast_high (n % 2 ^ 64) h ∙ omega (arith, ints)))
turns_of (negsuc n) = by_lt (2 ^ 64 - 1 - n % 2 ^ 64) (2 ^ 63) (λ h. (pos (n / 2 ^ 64 + 1), wrap_negsuc n ∙ to_z_pos w64 (2 ^ 64 - 1 - n % 2 ^ 64) h ∙ omega (arith, ints)))
    (λ h. (pos (n / 2 ^ 64), wrap_negsuc n ∙ cast_high (2 ^ 64 - 1 - n % 2 ^ 64) h ∙ omega (arith, ints)))

pub wrapped : (z : ℤ) → IsWrapped z (int_wrap w64 z)
wrapped z = record { fits = SFits-int_wrap w64 z; turns = (turns_of z).0; congruent = (turns_of z).1 }

int_wrap_turns : (k : ℤ) → int_wrap w64 (k *ℤ pos (2 ^ 64)) ≡ int_wrap w64 (pos 0)
int_wrap_turns k = sym (int_wrap-mul_right w64 k (pos (2 ^ 64))) ∙ ap (λ y. int_wrap w64 (k *ℤ y)) (wrap_pos (2 ^ 64)) ∙ ap (int_wrap w64) (omega (arith, ints))

pub wrapped_only : (z w : ℤ) → IsWrapped z w → w ≡ int_wrap w64 z
wrapped_only z w h = sym (int_wrap_fits w64 w h.fits) ∙ ap (int_wrap w64) h.congruent ∙ sym (int_wrap-add_right w64 z _) ∙ ap (λ y. int_wrap w64 (z +ℤ y)) (int_wrap_turns h.turns) ∙ int_wrap-add_right w64 z (pos 0) ∙ ap (int_wrap w64) (omega (arith, ints))

-- the bits of a number that is at most 2 ^ 63 from 0, read as a signed number
pub cast_near : (z : ℤ) → unsigned_abs z ≤ 2 ^ 63 → cast_signed w64 (cast_unsigned w64 z) ≡ int_wrap w64 z
unfolding int_wrap
cast_near (pos n) h = ap (cast_signed w64) (omega arith)
cast_near (negsuc n) h = ap (cast_signed w64) (omega arith)
