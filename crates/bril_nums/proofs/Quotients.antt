-- Quotients rounded toward zero.
use Rattle.std.proofs.Common.{◌≡◌, ℕ, zero, suc, ◌*◌, ◌^◌, ◌<◌, ◌≤◌, ℤ, pos, negsuc, ◌+ℤ◌, ◌*ℤ◌, neg_ℤ, unsigned_abs, refl, sym, ap, subst, ◌∙◌, arith, FitsSigned, Some, int_div, int_rem, ◌≢◌}
use Rattle.std.proofs.Math.Nat.{div-le_self, div-mul-le_self}
use Rattle.std.specs.Int.{int_wrap, w64, cast_signed, cast_unsigned}
use Rattle.std.proofs.lemmas.Int.{int_wrap_fits, quot-rem, rem_below, unsigned_abs-mul}
use Rattle.bril_nums.specs.Arith.{quotient, IsTruncatedQuotient}
use Rattle.bril_nums.proofs.Wraps.{cast_near}

unsigned_abs_neg : (n : ℕ) → unsigned_abs (neg_ℤ (pos n)) ≡ n
unsigned_abs_neg zero = refl
unsigned_abs_neg (suc n) = refl

-- a quotient is no further from 0 than the dividend
unsigned_abs-int_div-le : (a b : ℤ) → unsigned_abs (int_div a b) ≤ unsigned_abs a
unsigned_abs-int_div-le (pos a) (pos b) = div-le_self a b
unsigned_abs-int_div-le (pos a) (negsuc b) = rw unsigned_abs_neg (div-le_self a (suc b))
unsigned_abs-int_div-le (negsuc a) (pos b) = rw unsigned_abs_neg (div-le_self (suc a) b)
unsigned_abs-int_div-le (negsuc a) (negsuc b) = div-le_self (suc a) (suc b)

unsigned_abs-fits : (a : ℤ) → FitsSigned w64 a → unsigned_abs a ≤ 2 ^ 63
unsigned_abs-fits (pos a) f = omega (arith, f.sfits)
unsigned_abs-fits (negsuc a) f = omega (arith, f.sfits)

-- what `wrapping_div` gives
pub wrapping_div_is : (a b : ℤ) → FitsSigned w64 a → cast_signed w64 (cast_unsigned w64 (int_div a b)) ≡ int_wrap w64 (int_div a b)
wrapping_div_is a b f = cast_near (int_div a b) (omega (arith, unsigned_abs-int_div-le a b, unsigned_abs-fits a f))

-- where the divisor is not 0
pub quotient_is : (a b : ℤ) → b ≢ pos 0 → quotient a b ≡ Some (int_wrap w64 (int_div a b))
quotient_is a (pos zero) h = absurd (h refl)
quotient_is a (pos (suc n)) h = refl
quotient_is a (negsuc n) h = refl

-- a quotient is one by a divisor other than 0
divisor : (a b q : ℤ) → quotient a b ≡ Some q → (0 < unsigned_abs b) × (q ≡ int_wrap w64 (int_div a b))
divisor a (pos zero) q e = cc
divisor a (pos (suc n)) q e = (omega arith, cc)
divisor a (negsuc n) q e = (omega arith, cc)

pub quotient_remainder : (a b q : ℤ) → FitsSigned w64 (int_div a b) → quotient a b ≡ Some q → (q *ℤ b) +ℤ int_rem a b ≡ a
quotient_remainder a b q f e = ap (λ x. (x *ℤ b) +ℤ int_rem a b) ((divisor a b q e).1 ∙ int_wrap_fits w64 (int_div a b) f) ∙ quot-rem a b

-- what is taken away by the whole quotient is no further from 0 than the dividend
toward : (a b : ℤ) → unsigned_abs (int_div a b *ℤ b) ≤ unsigned_abs a
toward a b = rw unsigned_abs-mul (by a b)
  where
    by : (a b : ℤ) → unsigned_abs (int_div a b) * unsigned_abs b ≤ unsigned_abs a
    by (pos a) (pos b) = div-mul-le_self a b
    by (pos a) (negsuc b) = rw unsigned_abs_neg (div-mul-le_self a (suc b))
    by (negsuc a) (pos b) = rw unsigned_abs_neg (div-mul-le_self (suc a) b)
    by (negsuc a) (negsuc b) = div-mul-le_self (suc a) (suc b)

pub quotient_truncated : (a b q : ℤ) → FitsSigned w64 (int_div a b) → quotient a b ≡ Some q → IsTruncatedQuotient a b q
quotient_truncated a b q f e =
    let d = divisor a b q e in
    record {
      remainder = int_rem a b;
      whole = quotient_remainder a b q f e;
      small = rem_below a b d.0;
      toward_zero = let P : ℤ → Type 0 = λ x. unsigned_abs (x *ℤ b) ≤ unsigned_abs a in subst P (sym (d.1 ∙ int_wrap_fits w64 (int_div a b) f)) (toward a b);
    }

-- the one quotient that does not fit
pub quotient_least : quotient (neg_ℤ (pos (2 ^ 63))) (neg_ℤ (pos 1)) ≡ Some (neg_ℤ (pos (2 ^ 63)))
unfolding int_wrap
quotient_least = refl
