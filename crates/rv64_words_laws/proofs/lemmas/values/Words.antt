-- What words compute of the words of values.
use Rattle.std.proofs.Common.{◌≡◌, ℕ, ◌+◌, ◌-◌, ◌*◌, ◌%◌, ◌^◌, ◌<◌, Bool, true, false, not, ◌&&◌, ◌||◌, eqb, ltb, leb, refl, sym, ap, ◌∙◌, arith, ℤ, pos, negsuc, ◌+ℤ◌}
use Rattle.std.specs.Prelude.{FitsSigned, ◌-ℤ◌, ◌*ℤ◌, int_lt, int_le, int_div, bit_and, bit_or}
use Rattle.std.specs.Int.{w64, cast_unsigned, cast_signed, int_wrap, from_bool}
use Rattle.std.proofs.lemmas.Bool.Decides.{nat_tests}
use Rattle.std.proofs.lemmas.Int.{to_z-of_z, of_z-to_z, to_z_pos, wrapping_add_is, wrapping_sub_is, wrapping_mul_is}
use Rattle.bril_nums.proofs.Quotients.{wrapping_div_is}
use Rattle.bril_tree.specs.Outcome.{int_same}
use Rattle.rv64_words.specs.Arithmetic.{less_signed, divided}
use Rattle.rv64_words.proofs.Division.{divided-rounded, quotient-below}

-- ---- arithmetic

pub add_word : (a b : ℤ) → FitsSigned w64 a → FitsSigned w64 b → (cast_unsigned w64 a + cast_unsigned w64 b) % 2 ^ 64 ≡ cast_unsigned w64 (int_wrap w64 (a +ℤ b))
add_word a b fa fb =
    let lt : (cast_unsigned w64 a + cast_unsigned w64 b) % 2 ^ 64 < 2 ^ 64 = omega arith in
    sym (ap (cast_unsigned w64) (sym (wrapping_add_is w64 a b fa fb)) ∙ of_z-to_z w64 _ lt)

pub sub_word : (a b : ℤ) → FitsSigned w64 a → FitsSigned w64 b → (cast_unsigned w64 a + (2 ^ 64 - cast_unsigned w64 b)) % 2 ^ 64 ≡ cast_unsigned w64 (int_wrap w64 (a -ℤ b))
sub_word a b fa fb =
    let lt : (cast_unsigned w64 a + (2 ^ 64 - cast_unsigned w64 b)) % 2 ^ 64 < 2 ^ 64 = omega arith in
    sym (ap (cast_unsigned w64) (sym (wrapping_sub_is w64 a b fa fb)) ∙ of_z-to_z w64 _ lt)

pub mul_word : (a b : ℤ) → FitsSigned w64 a → FitsSigned w64 b → cast_unsigned w64 a * cast_unsigned w64 b % 2 ^ 64 ≡ cast_unsigned w64 (int_wrap w64 (a *ℤ b))
mul_word a b fa fb =
    let lt : cast_unsigned w64 a * cast_unsigned w64 b % 2 ^ 64 < 2 ^ 64 = omega arith in
    sym (ap (cast_unsigned w64) (sym (wrapping_mul_is w64 a b fa fb)) ∙ of_z-to_z w64 _ lt)

-- the divisor is 0 exactly where its word is
pub is_zero : (b : ℤ) → FitsSigned w64 b → eqb (cast_unsigned w64 b) 0 ≡ int_same b (pos 0)
is_zero (pos n) fits = grind (arith, nat_tests)
is_zero (negsuc n) fits = let f = fits.sfits in grind (arith, nat_tests)

-- DIV gives the word of the quotient that Bril's `div` gives, where the divisor isn't 0
pub div_word : (a b : ℤ) → FitsSigned w64 a → FitsSigned w64 b → int_same b (pos 0) ≡ false → divided (cast_unsigned w64 a) (cast_unsigned w64 b) ≡ cast_unsigned w64 (int_wrap w64 (int_div a b))
div_word a b fa fb e =
    divided-rounded (cast_unsigned w64 a) (cast_unsigned w64 b) (is_zero b fb ∙ e)
    ∙ (ap (λ x. cast_unsigned w64 (int_div x (cast_signed w64 (cast_unsigned w64 b)))) (to_z-of_z w64 a fa)
    ∙ (ap (λ y. cast_unsigned w64 (int_div a y)) (to_z-of_z w64 b fb)
    ∙ sym (ap (cast_unsigned w64) (sym (wrapping_div_is a b fa)) ∙ of_z-to_z w64 (cast_unsigned w64 (int_div a b)) (quotient-below a b fa))))

-- ---- comparisons

pub less_word : (a b : ℤ) → FitsSigned w64 a → FitsSigned w64 b → less_signed (cast_unsigned w64 a) (cast_unsigned w64 b) ≡ int_lt a b
less_word a b fa fb = ap (λ x. int_lt x (cast_signed w64 (cast_unsigned w64 b))) (to_z-of_z w64 a fa) ∙ ap (int_lt a) (to_z-of_z w64 b fb)

-- SUB and SLTIU 1: equality
pub same_word : (a b : ℤ) → FitsSigned w64 a → FitsSigned w64 b → ltb ((cast_unsigned w64 a + (2 ^ 64 - cast_unsigned w64 b)) % 2 ^ 64) 1 ≡ int_same a b
same_word (pos m) (pos n) fa fb = let x = fa.sfits in let y = fb.sfits in grind (arith, nat_tests)
same_word (pos m) (negsuc n) fa fb = let x = fa.sfits in let y = fb.sfits in grind (arith, nat_tests)
same_word (negsuc m) (pos n) fa fb = let x = fa.sfits in let y = fb.sfits in grind (arith, nat_tests)
same_word (negsuc m) (negsuc n) fa fb = let x = fa.sfits in let y = fb.sfits in grind (arith, nat_tests)

-- one is at most another where the other isn't less
pub not_less : (a b : ℤ) → not (int_lt b a) ≡ int_le a b
not_less (pos m) (pos n) = grind (arith, nat_tests)
not_less (pos m) (negsuc n) = refl
not_less (negsuc m) (pos n) = refl
not_less (negsuc m) (negsuc n) = grind (arith, nat_tests)

-- SLTIU 1 of a truth: its opposite
pub not_word : (b : Bool) → from_bool (ltb (from_bool b) 1) ≡ from_bool (not b)
not_word true = refl
not_word false = refl

-- ---- chars

pub less_chars : (a b : ℕ) → a < 2 ^ 63 → b < 2 ^ 63 → less_signed a b ≡ ltb a b
less_chars a b la lb = ap (λ x. int_lt x (cast_signed w64 b)) (to_z_pos w64 a la) ∙ ap (int_lt (pos a)) (to_z_pos w64 b lb)

pub same_chars : (a b : ℕ) → a < 2 ^ 63 → b < 2 ^ 63 → ltb ((a + (2 ^ 64 - b)) % 2 ^ 64) 1 ≡ eqb a b
same_chars a b la lb = grind (arith, nat_tests)

pub not_less_nat : (a b : ℕ) → not (ltb b a) ≡ leb a b
not_less_nat a b = grind (arith, nat_tests)

-- ---- logic

pub and_word : (a b : Bool) → bit_and (from_bool a) (from_bool b) ≡ from_bool (a && b)
and_word true true = refl
and_word true false = refl
and_word false true = refl
and_word false false = refl

pub or_word : (a b : Bool) → bit_or (from_bool a) (from_bool b) ≡ from_bool (a || b)
or_word true true = refl
or_word true false = refl
or_word false true = refl
or_word false false = refl
