-- Things that belong to functions, counted function by function: they are no more than all of them.
use Rattle.std.proofs.Common.{◌≡◌, ℕ, zero, suc, ◌+◌, ◌*◌, ◌<◌, ◌≤◌, Bool, true, false, cond, List, [], ◌∷◌, length, refl, sym, ap, arith, mul-add, mul-le-mul_left, mul-zero}
use Rattle.std.specs.Prelude.{◌==◌}
use Rattle.std.specs.List.{filter, range_with_len, sum_by}
use Rattle.std.proofs.lemmas.Bool.{eqb-true}
use Rattle.std.proofs.lemmas.List.Sums.{sum_by-cons}

-- so many times a sum
sum-times : (times : ℕ) (count : ℕ → ℕ) (xs : List ℕ) → sum_by (λ f. times * count f) xs ≡ times * sum_by count xs
sum-times times count [] = sym (mul-zero times)
sum-times times count (x ∷ xs) =
    let all = sum_by-cons (λ f. times * count f) x xs in
    let own = sum_by-cons count x xs in
    let rest = sum-times times count xs in
    let apart = mul-add times (count x) (sum_by count xs) in
    let whole : times * sum_by count (x ∷ xs) ≡ times * (count x + sum_by count xs) = ap (λ n. times * n) own in
    omega arith

module _ {X : Type 0} (owner : X → ℕ) where
  -- those of one function
  abbrev pub owned : List X → ℕ → List X
  owned xs f = filter (λ x. owner x == f) xs

  abbrev counted : List X → ℕ → ℕ
  counted xs f = length (owned xs f)

  none-owned : (k n : ℕ) → sum_by (counted []) (range_with_len k n) ≡ 0
  none-owned k zero = refl
  none-owned k (suc n) = let one = sum_by-cons (counted []) k (range_with_len (k + 1) n) in let rest = none-owned (k + 1) n in omega arith

  -- one thing is counted once at most, and not at all past its function
  once-owned : (x : X) (xs : List X) (k n : ℕ) → (sum_by (counted (x ∷ xs)) (range_with_len k n) ≤ suc (sum_by (counted xs) (range_with_len k n))) × (owner x < k → sum_by (counted (x ∷ xs)) (range_with_len k n) ≡ sum_by (counted xs) (range_with_len k n))
  once-owned x xs k zero = (omega arith, λ l. refl)
  once-owned x xs k (suc n) = by (owner x == k) refl (once-owned x xs (k + 1) n)
    where
      rest : List ℕ
      rest = range_with_len (k + 1) n

      by : (b : Bool) → (owner x == k) ≡ b → (sum_by (counted (x ∷ xs)) rest ≤ suc (sum_by (counted xs) rest)) × (owner x < k + 1 → sum_by (counted (x ∷ xs)) rest ≡ sum_by (counted xs) rest)
          → (sum_by (counted (x ∷ xs)) (k ∷ rest) ≤ suc (sum_by (counted xs) (k ∷ rest))) × (owner x < k → sum_by (counted (x ∷ xs)) (k ∷ rest) ≡ sum_by (counted xs) (k ∷ rest))
      by true e again =
          let mine = sum_by-cons (counted (x ∷ xs)) k rest in
          let theirs = sum_by-cons (counted xs) k rest in
          let here : counted (x ∷ xs) k ≡ suc (counted xs k) = ap (λ b. length (cond b (x ∷ owned xs k) (owned xs k))) e in
          let same = eqb-true (owner x) k e in
          let past = again.1 (omega (arith, same)) in
          (omega arith, λ l. absurd (omega (arith, same)))
      by false e again =
          let mine = sum_by-cons (counted (x ∷ xs)) k rest in
          let theirs = sum_by-cons (counted xs) k rest in
          let here : counted (x ∷ xs) k ≡ counted xs k = ap (λ b. length (cond b (x ∷ owned xs k) (owned xs k))) e in
          let most = again.0 in
          (omega arith, λ l. let past = again.1 (omega arith) in omega arith)

  counted_few : (xs : List X) (k n : ℕ) → sum_by (counted xs) (range_with_len k n) ≤ length xs
  counted_few [] k n = let none = none-owned k n in omega arith
  counted_few (x ∷ xs) k n = let once = (once-owned x xs k n).0 in let rest = counted_few xs k n in omega arith

  -- so many for each of them
  pub shares-few : (times : ℕ) (xs : List X) (k n : ℕ) → sum_by (λ f. times * length (owned xs f)) (range_with_len k n) ≤ times * length xs
  shares-few times xs k n =
      let all = sum-times times (counted xs) (range_with_len k n) in
      let few = mul-le-mul_left times (counted_few xs k n) in
      omega arith
