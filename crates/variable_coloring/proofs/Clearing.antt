-- Bits of words that are cleared, or left out.
use Rattle.std.proofs.Common.{◌≡◌, ◌⊎◌, ℕ, ◌-◌, ◌^◌, ◌<◌, ◌≤◌, w64, true, sym, subst, ◌∙◌, inl, inr, ⊎_elim, arith}
use Rattle.std.specs.Prelude.{bit_and}
use Rattle.std.specs.Int.{bit_at, trailing_zeros}
use Rattle.std.proofs.lemmas.Bool.{cases_Bool, cases_lt, true≢false}
use Rattle.std.proofs.lemmas.Nat.{and_le_l}
use Rattle.std.proofs.lemmas.Nat.Bits.{bit_at-lt, bit_at-trailing_zeros, bit_at_not}
use Rattle.graph_search.specs.Sets.{has_bit}
use Rattle.graph_search.proofs.WordBits.{and-both, and-each, one-has}

-- the lowest bit of a word that isn't 0
pub lowest-there : (word : ℕ) → 0 < word → word < 2 ^ 64 → (trailing_zeros w64 word < 64) × (has_bit word (trailing_zeros w64 word) ≡ true)
lowest-there word some fits = let l = bit_at-trailing_zeros w64 word some fits in (l.0, one-has word (trailing_zeros w64 word) l.1)

-- a word is less without one of its bits
pub clear-less : (word mask k : ℕ) → has_bit word k ≡ true → (has_bit mask k ≡ true → ⊥) → bit_and word mask < word
clear-less word mask k there out = ⊎_elim (λ less. less) (λ past. absurd (out (and-each word mask k (subst (λ w. has_bit w k ≡ true) (same past) there)).1)) (cases_lt (bit_and word mask) word)
  where
    same : word ≤ bit_and word mask → word ≡ bit_and word mask
    same past = let low = and_le_l word mask in omega (arith, past, low)

-- a bit of a word is one of another, or left where those are left out
pub left-or_out : (word out k : ℕ) → out < 2 ^ 64 → k < 64 → has_bit word k ≡ true → (has_bit out k ≡ true) ⊎ (has_bit (bit_and word (2 ^ 64 - 1 - out)) k ≡ true)
left-or_out word out k fits low there = ⊎_elim inl (λ no. inr (and-both word (2 ^ 64 - 1 - out) k there (one-has (2 ^ 64 - 1 - out) k (bit_at_not w64 out k fits low ∙ one (bit_at out k) (bit_at-lt out k) (λ e. true≢false (sym (one-has out k e) ∙ no)))))) (cases_Bool (has_bit out k))
  where
    one : (n : ℕ) → n < 2 → (n ≡ 1 → ⊥) → 1 - n ≡ 1
    one n low ne = ⊎_elim (λ less. (let h : n ≡ 0 = omega (arith, less) in omega (arith, h))) (λ past. absurd (ne (omega (arith, low, past)))) (cases_lt n 1)
