-- Bril's ints: 64 bits in two's complement. A sum, a difference and a product wrap, as std's `int_wrap w64` says.
use Rattle.std.specs.Prelude.{◌≡◌, ℕ, zero, suc, ◌^◌, ◌<◌, ◌≤◌, ℤ, pos, negsuc, ◌+ℤ◌, ◌*ℤ◌, Option, Some, None, if◌then◌else◌, int_div, unsigned_abs, FitsSigned}
use Rattle.std.specs.Int.{int_wrap, w64}
use lib.Utf8.{scalar}

-- `div`: None where the divisor is 0, else the quotient rounded toward zero, wrapped to 64 bits
abbrev pub quotient : ℤ → ℤ → Option ℤ
quotient a (pos zero) = None
quotient a (pos (suc n)) = Some (int_wrap w64 (int_div a (pos (suc n))))
quotient a (negsuc n) = Some (int_wrap w64 (int_div a (negsuc n)))

-- the Unicode scalar value that an int numbers, if there is one
abbrev pub scalar_of : ℤ → Option ℕ
scalar_of (pos n) = if scalar n then Some n else None
scalar_of (negsuc n) = None

-- w is z with a multiple of 2 ^ 64 added, and is in the range of 64 bits
pub record IsWrapped (z w : ℤ) : Type 0 where
  pub fits : FitsSigned w64 w
  pub turns : ℤ
  pub congruent : w ≡ z +ℤ (turns *ℤ pos (2 ^ 64))

-- q is a / b rounded toward zero: with a remainder smaller than b it gives a, and q * b is no further from 0 than a
pub record IsTruncatedQuotient (a b q : ℤ) : Type 0 where
  pub remainder : ℤ
  pub whole : (q *ℤ b) +ℤ remainder ≡ a
  pub small : unsigned_abs remainder < unsigned_abs b
  pub toward_zero : unsigned_abs (q *ℤ b) ≤ unsigned_abs a
