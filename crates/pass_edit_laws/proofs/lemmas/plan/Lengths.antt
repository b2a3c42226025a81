-- How long a spliced list is at most: sums of what is put before and after its items.
use Rattle.std.proofs.Common.{◌≡◌, ℕ, zero, suc, ◌+◌, ◌<◌, ◌≤◌, Bool, true, false, List, [], ◌∷◌, ◌++◌, length, refl, arith}
use Rattle.std.specs.Prelude.{◌==◌}
use Rattle.std.proofs.lemmas.Bool.{eqb-false, eqb-true}
use Rattle.std.proofs.lemmas.List.{length-append}
use Rattle.pass_edit_laws.specs.plan.Spliced.{spliced}

-- the sum of n + 1 numbers from the k-th on
abbrev pub sum_from : (ℕ → ℕ) → ℕ → ℕ → ℕ
sum_from size k zero = size k
sum_from size k (suc n) = size k + sum_from size (suc k) n

pub spliced-long : {X : Type 0} (before after : ℕ → List X) (k : ℕ) (items : List X) → length (spliced before after k items) ≤ length items + sum_from (λ i. length (before i)) k (length items) + sum_from (λ i. length (after i)) k (length items)
spliced-long before after k [] = omega arith
spliced-long before after k (a ∷ items) =
    let rest = spliced-long before after (suc k) items in
    let one = length-append (before k) (a ∷ (after k ++ spliced before after (suc k) items)) in
    let two = length-append (after k) (spliced before after (suc k) items) in
    omega arith

pub sum_from-none : (k n : ℕ) → sum_from (λ i. 0) k n ≡ 0
sum_from-none k zero = refl
sum_from-none k (suc n) = let r = sum_from-none (suc k) n in omega arith

-- where a size grows by a weight at one number alone
grows-none : (p w : ℕ) (size more : ℕ → ℕ) → ((i : ℕ) → (i ≡ p → ⊥) → more i ≤ size i) → (n k : ℕ) → p < k → sum_from more k n ≤ sum_from size k n
grows-none p w size more same zero k less = same k (λ e. omega (arith, e))
grows-none p w size more same (suc n) k less = let a = same k (λ e. omega (arith, e)) in let r = grows-none p w size more same n (suc k) (omega arith) in omega arith

pub grows-once : (p w : ℕ) (size more : ℕ → ℕ) → ((i : ℕ) → (i ≡ p → ⊥) → more i ≤ size i) → ((i : ℕ) → more i ≤ w + size i) → (n k : ℕ) → sum_from more k n ≤ w + sum_from size k n
grows-once p w size more same grows zero k = grows k
grows-once p w size more same grows (suc n) k = by (k == p) refl (grows-once p w size more same grows n (suc k))
  where
    by : (b : Bool) → (k == p) ≡ b → sum_from more (suc k) n ≤ w + sum_from size (suc k) n → more k + sum_from more (suc k) n ≤ w + (size k + sum_from size (suc k) n)
    by true e rest = let here : k ≡ p = eqb-true k p e in let a = grows k in let r = grows-none p w size more same n (suc k) (omega (arith, here)) in omega arith
    by false e rest = let a = same k (λ s. eqb-false k p e s) in omega arith
