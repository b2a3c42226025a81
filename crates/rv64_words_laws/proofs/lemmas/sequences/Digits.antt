-- Numbers in digits of 12 bits.
use Rattle.std.proofs.Common.{◌≡◌, ℕ, ◌+◌, ◌-◌, ◌*◌, ◌/◌, ◌%◌, ◌^◌, ◌<◌, ◌≤◌, ◌⊎◌, inl, inr, ⊎_elim, Bool, true, false, cond, ltb, leb, refl, ap, ◌∙◌, arith, pos, negsuc}
use Rattle.std.specs.Prelude.{◌||◌}
use Rattle.std.specs.Int.{w64, cast_unsigned}
use Rattle.std.proofs.lemmas.Bool.Decides.{nat_tests}
use Rattle.std.proofs.lemmas.Bool.{or_cases}
use Rattle.rv64_words.specs.Arithmetic.{extended_32, moved_by}
use Rattle.rv64_words_laws.specs.sequences.Sequences.{high_part, low_part, fits_12, fits_32}

-- a number's low part, as 64 bits
abbrev low_bits : ℕ → ℕ
low_bits n = cast_unsigned w64 (low_part n)

-- what the high part leaves of the number is its low part, modulo 2^64
low_by_test : (d : Bool) (n r : ℕ) → n < 2 ^ 64 → r ≡ n % 4096 → ltb r 2048 ≡ d → ((n / 4096 + n / 2048 % 2) * 4096 + cast_unsigned w64 (cond d (pos r) (negsuc (4095 - r)))) % 2 ^ 64 ≡ n
low_by_test true n r lt is e = let small : r < 2048 = grind (arith, nat_tests) in omega arith
low_by_test false n r lt is e = let large : 2048 ≤ r = grind (arith, nat_tests) in omega arith

parts_again : (n : ℕ) → n < 2 ^ 64 → (high_part n * 4096 + low_bits n) % 2 ^ 64 ≡ n
parts_again n lt = low_by_test (ltb (n % 4096) 2048) n (n % 4096) lt refl refl

-- a digit more
pub digit_again : (n : ℕ) → n < 2 ^ 64 → moved_by (high_part n * 2 ^ 12 % 2 ^ 64) (low_part n) ≡ n
digit_again n lt = modulo (high_part n) (low_bits n) n (parts_again n lt)
  where
    modulo : (h l n : ℕ) → (h * 4096 + l) % 2 ^ 64 ≡ n → (h * 2 ^ 12 % 2 ^ 64 + l) % 2 ^ 64 ≡ n
    modulo h l n e = omega arith

pub extended_small : (n : ℕ) → n < 2 ^ 31 → extended_32 n ≡ n
extended_small n lt = grind (arith, nat_tests)

extended_large : (n : ℕ) → 2 ^ 31 ≤ n → extended_32 n ≡ n + (2 ^ 64 - 2 ^ 32)
extended_large n le = grind (arith, nat_tests)

-- LUI and ADDI give a number below 2^31 - 2048
pub small_again : (n : ℕ) → n < 2 ^ 31 - 2048 → moved_by (extended_32 (high_part n * 4096)) (low_part n) ≡ n
small_again n lt =
    let small : high_part n * 4096 < 2 ^ 31 = omega arith in
    let wide : n < 2 ^ 64 = omega arith in
    ap (λ x. moved_by x (low_part n)) (extended_small (high_part n * 4096) small) ∙ parts_again n wide

low_high : (n : ℕ) → n < 2 ^ 31 - 2048 → high_part n % 2 ^ 20 ≡ high_part n
low_high n lt = omega arith

-- and one from 2^64 - 2^31 on
top_part : (n : ℕ) → 2 ^ 64 - 2 ^ 31 ≤ n → n < 2 ^ 64 - 2048 → 2 ^ 31 ≤ high_part n % 2 ^ 20 * 4096
top_part n le lt = omega arith

top_sum : (n : ℕ) → 2 ^ 64 - 2 ^ 31 ≤ n → n < 2 ^ 64 - 2048 → high_part n % 2 ^ 20 * 4096 + (2 ^ 64 - 2 ^ 32) ≡ high_part n * 4096
top_sum n le lt = omega arith

pub medium_again : (n : ℕ) → n < 2 ^ 64 - 2048 → fits_32 n ≡ true → moved_by (extended_32 (high_part n % 2 ^ 20 * 4096)) (low_part n) ≡ n
medium_again n lt fits = ⊎_elim low top (or_cases _ _ fits)
  where
    low : ltb n (2 ^ 31 - 2048) ≡ true → moved_by (extended_32 (high_part n % 2 ^ 20 * 4096)) (low_part n) ≡ n
    low e =
        let small : n < 2 ^ 31 - 2048 = grind (arith, nat_tests) in
        ap (λ h. moved_by (extended_32 (h * 4096)) (low_part n)) (low_high n small) ∙ small_again n small

    top : leb (2 ^ 64 - 2 ^ 31) n ≡ true → moved_by (extended_32 (high_part n % 2 ^ 20 * 4096)) (low_part n) ≡ n
    top e =
        let large : 2 ^ 64 - 2 ^ 31 ≤ n = grind (arith, nat_tests) in
        let wide : n < 2 ^ 64 = omega arith in
        ap (λ x. moved_by x (low_part n)) (extended_large (high_part n % 2 ^ 20 * 4096) (top_part n large lt) ∙ top_sum n large lt) ∙ parts_again n wide

-- ADDI alone
short_by_test : (d : Bool) (n r : ℕ) → n < 2 ^ 64 → (n < 2048) ⊎ (2 ^ 64 - 2048 ≤ n) → r ≡ n % 4096 → ltb r 2048 ≡ d → (0 + cast_unsigned w64 (cond d (pos r) (negsuc (4095 - r)))) % 2 ^ 64 ≡ n
short_by_test true n r lt (inl h) is e = let small : r < 2048 = grind (arith, nat_tests) in omega arith
short_by_test true n r lt (inr h) is e = let small : r < 2048 = grind (arith, nat_tests) in absurd (omega arith)
short_by_test false n r lt (inl h) is e = let large : 2048 ≤ r = grind (arith, nat_tests) in absurd (omega arith)
short_by_test false n r lt (inr h) is e = let large : 2048 ≤ r = grind (arith, nat_tests) in omega arith

short_cases : (n : ℕ) → fits_12 n ≡ true → (n < 2048) ⊎ (2 ^ 64 - 2048 ≤ n)
short_cases n fits = ⊎_elim (λ e. inl (below e)) (λ e. inr (above e)) (or_cases _ _ fits)
  where
    below : ltb n 2048 ≡ true → n < 2048
    below e = grind (arith, nat_tests)

    above : leb (2 ^ 64 - 2048) n ≡ true → 2 ^ 64 - 2048 ≤ n
    above e = grind (arith, nat_tests)

pub short_again : (n : ℕ) → n < 2 ^ 64 → fits_12 n ≡ true → moved_by 0 (low_part n) ≡ n
short_again n lt fits = short_by_test (ltb (n % 4096) 2048) n (n % 4096) lt (short_cases n fits) refl refl

-- ADDI adds it to another number
pub short_added : (n x : ℕ) → n < 2 ^ 64 → fits_12 n ≡ true → moved_by x (low_part n) ≡ (x + n) % 2 ^ 64
short_added n x lt fits = modulo (low_bits n) (short_again n lt fits)
  where
    modulo : (l : ℕ) → (0 + l) % 2 ^ 64 ≡ n → (x + l) % 2 ^ 64 ≡ (x + n) % 2 ^ 64
    modulo l e = omega arith

-- a number that ADDI alone doesn't give is below the last 2048
pub not_short : (n : ℕ) → fits_12 n ≡ false → n < 2 ^ 64 - 2048
not_short n fits = by_test (leb (2 ^ 64 - 2048) n) refl fits
  where
    by_test : (b : Bool) → leb (2 ^ 64 - 2048) n ≡ b → (ltb n 2048 || b) ≡ false → n < 2 ^ 64 - 2048
    by_test true e f = absurd (clash (ltb n 2048) f)
      where
        clash : (a : Bool) → (a || true) ≡ false → ⊥
        clash true f = cc
        clash false f = cc
    by_test false e f = grind (arith, nat_tests)

-- a number of bytes and a base: LUI, ADD of the base, and the low part
pub based_again : (n base : ℕ) → n < 2 ^ 27 → base < 2 ^ 32 → moved_by ((extended_32 (high_part n * 4096) + base) % 2 ^ 64) (low_part n) ≡ base + n
based_again n base lt low =
    let small : high_part n * 4096 < 2 ^ 31 = omega arith in
    let wide : n < 2 ^ 64 = omega arith in
    ap (λ x. moved_by ((x + base) % 2 ^ 64) (low_part n)) (extended_small (high_part n * 4096) small) ∙ moved (high_part n * 4096) (low_bits n) n base lt low small (parts_again n wide)
  where
    moved : (a b n base : ℕ) → n < 2 ^ 27 → base < 2 ^ 32 → a < 2 ^ 31 → (a + b) % 2 ^ 64 ≡ n → ((a + base) % 2 ^ 64 + b) % 2 ^ 64 ≡ base + n
    moved a b n base lt low la e = omega arith

-- near: the low part alone
pub near_again : (n base : ℕ) → n < 2 ^ 27 → base < 2 ^ 32 → moved_by base (pos n) ≡ base + n
near_again n base lt low = omega arith
