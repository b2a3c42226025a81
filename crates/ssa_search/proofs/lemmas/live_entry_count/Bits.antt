-- How many bits of a word are 1.
use Rattle.std.proofs.Common.{◌≡◌, ◌⊎◌, ℕ, zero, suc, ◌/◌, ◌%◌, ◌^◌, ◌<◌, [], ◌∷◌, refl, sym, ap, subst, ◌∙◌, inl, inr, ⊎_elim, true, arith}
use Rattle.std.proofs.Math.Nat.{pow-suc}
use Rattle.std.proofs.lemmas.Nat.Bits.{bit_at-lt, bit_at-suc, bit_at_lowest}
use Rattle.std.specs.Int.{bit_at}
use Rattle.std.specs.Int.RustNames.{count_ones}
use lib.Count.{ones_step, ones-le}
use Rattle.bril_tree.proofs.Members.{contains_in}
use Rattle.graph_search.specs.Sets.{has_bit}
use Rattle.graph_search.proofs.WordBits.{has-one, one-has}
use Rattle.pass_edit_laws.proofs.lemmas.plan.Elements.{in_all}
use Rattle.program_numbers.specs.Entries.{AreSoMany}
use Rattle.ssa_search.proofs.lemmas.live_entry_count.Adding.{so-both, so-made, so-none, so-same}

-- one of the lowest bits that is 1
abbrev IsSet : ℕ → ℕ → ℕ → Type 0
IsSet word width k = (k < width) × (bit_at word k ≡ 1)

half-low : (width word : ℕ) → word < 2 ^ suc width → word / 2 < 2 ^ width
half-low width word low = let p = pow-suc 2 width in omega (arith, low, p)

-- its lowest bit
abbrev IsLowest : ℕ → ℕ → Type 0
IsLowest word k = (k ≡ 0) × (bit_at word 0 ≡ 1)

lowest-set : (word : ℕ) → AreSoMany (IsLowest word) (word % 2)
lowest-set word = subst (AreSoMany (IsLowest word)) (bit_at_lowest word) (by (bit_at word 0) refl (bit_at-lt word 0))
  where
    by : (n : ℕ) → bit_at word 0 ≡ n → n < 2 → AreSoMany (IsLowest word) (bit_at word 0)
    by zero e low = subst (AreSoMany (IsLowest word)) (sym e) (so-none (IsLowest word) (λ k h. let o = h.1 in omega (arith, e, o)))
    by (suc n) e low =
        let one : bit_at word 0 ≡ 1 = omega (arith, e, low) in
        subst (AreSoMany (IsLowest word)) (sym one) (record {
          members = 0 ∷ [];
          differ = λ i j d less inside. absurd (omega arith);
          are = in_all (IsLowest word) (0 ∷ []) (λ k i. ⊎_elim (λ same. (same, one)) (λ n. absurd n) i);
          all = λ k h. contains_in k (0 ∷ []) (inl h.0);
          count = refl;
        })

bits-set : (width word : ℕ) → word < 2 ^ width → AreSoMany (IsSet word width) (count_ones word)
bits-set zero word low =
    let few = ones-le 0 word low in
    let none : 0 ≡ count_ones word = omega (arith, few) in
    subst (AreSoMany (IsSet word 0)) none (so-none (IsSet word 0) (λ k h. let l = h.0 in omega (arith, l)))
bits-set (suc width) word low = join (bits-set width (word / 2) (half-low width word low))
  where
    cases : (k : ℕ) → IsSet word (suc width) k → IsLowest word k ⊎ ((0 < k) × IsSet word (suc width) k)
    cases zero h = inl (refl, h.1)
    cases (suc k) h = inr (omega arith, h)

    from : (k : ℕ) → (0 < k) × IsSet word (suc width) k → (j : ℕ) × IsSet (word / 2) width j × (suc j ≡ k)
    from zero h = absurd (let l = h.0 in omega (arith, l))
    from (suc k) h = (k, ((let l = h.1.0 in omega (arith, l)), sym (bit_at-suc word k) ∙ h.1.1), refl)

    join : AreSoMany (IsSet (word / 2) width) (count_ones (word / 2)) → AreSoMany (IsSet word (suc width)) (count_ones word)
    join rest =
        let upper = so-made (IsSet (word / 2) width) (λ k. (0 < k) × IsSet word (suc width) k) (λ k. suc k) (count_ones (word / 2)) rest
        (λ x y p q e. omega (arith, e)) (λ k h. (omega arith, ((let l = h.0 in omega (arith, l)), bit_at-suc word k ∙ h.1))) from in
        subst (AreSoMany (IsSet word (suc width))) (sym (ones_step word))
        (so-both (IsLowest word) (λ k. (0 < k) × IsSet word (suc width) k) (IsSet word (suc width)) (word % 2) (count_ones (word / 2)) (lowest-set word) upper
        (λ k h g. let a = h.0 in let b = g.0 in omega (arith, a, b))
        cases
        (λ k h. ((let a = h.0 in omega (arith, a)), ap (bit_at word) h.0 ∙ h.1))
        (λ k h. h.1))

-- the bits of a word of 64
pub word-bits : (word : ℕ) → word < 2 ^ 64 → AreSoMany (λ k. (k < 64) × (has_bit word k ≡ true)) (count_ones word)
word-bits word low = so-same (IsSet word 64) (λ k. (k < 64) × (has_bit word k ≡ true)) (count_ones word) (bits-set 64 word low) (λ k h. (h.0, one-has word k h.1)) (λ k h. (h.0, has-one word k h.1))
