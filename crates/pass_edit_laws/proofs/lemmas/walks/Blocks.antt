-- The points of a function into which items were put, by blocks. The block of an item is what was put before it, the item
-- itself, and what was put behind it; the block of the end is what was put before the end.
use Rattle.std.proofs.Common.{◌≡◌, ℕ, zero, suc, ◌+◌, ◌-◌, ◌<◌, ◌≤◌, sym, subst, ⊎_elim, arith}
use Rattle.std.proofs.lemmas.Bool.{cases_lt, cases_eq}

-- `old i` is where item i stands, of `count` in all, and `before i` counts what was put before it.
module _ (old before : ℕ → ℕ) (count : ℕ) (next : (i : ℕ) → i < count → suc (old i) + before (suc i) ≤ old (suc i)) where
  further : (i d : ℕ) → i + suc d ≤ count → suc (old i) + before (i + suc d) ≤ old (i + suc d)
  further i zero h = let e : suc i ≡ i + 1 = omega arith in subst (λ n. suc (old i) + before n ≤ old n) e (next i (omega arith))
  further i (suc d) h =
      let rest = further i d (omega arith) in
      let one = next (i + suc d) (omega arith) in
      let e : suc (i + suc d) ≡ i + suc (suc d) = omega arith in
      subst (λ n. suc (old i) + before n ≤ old n) e (omega arith)

  -- a later item stands, with what was put before it, behind an earlier one
  pub later-item : (i k : ℕ) → i < k → k ≤ count → suc (old i) + before k ≤ old k
  later-item i k less within = let e : i + suc (k - suc i) ≡ k = omega arith in subst (λ n. suc (old i) + before n ≤ old n) e (further i (k - suc i) (omega arith))

  pub later-old : (i k : ℕ) → i ≤ k → k ≤ count → old i ≤ old k
  later-old i k low within = ⊎_elim (λ less. let h = later-item i k less within in omega arith) (λ high. let e : i ≡ k = omega arith in subst (λ n. old i ≤ old n) e (omega arith)) (cases_lt i k)

  -- the point of the new function stands in the block of this item of the old one
  pub record IsInBlock (block point : ℕ) : Type 0 where
    pub inside : block ≤ count
    pub low : old block ≤ point + before block
    pub high : block < count → suc point + before (suc block) ≤ old (suc block)

  -- it stands before what was put before any later item
  pub before-later : (block point : ℕ) → IsInBlock block point → (i : ℕ) → block < i → i ≤ count → suc point + before i ≤ old i
  before-later block point h i less within = ⊎_elim (λ e. subst (λ n. suc point + before n ≤ old n) (sym e) high) (λ d. let l = later-item (suc block) i (omega (arith, less, d)) within in omega arith) (cases_eq i (suc block))
    where
      high : suc point + before (suc block) ≤ old (suc block)
      high = h.high (omega arith)

  -- no two blocks have a point in common
  pub one-block : (point a b : ℕ) → IsInBlock a point → IsInBlock b point → a ≡ b
  one-block point a b x y = ⊎_elim (λ l. absurd (clash a b x y l)) (λ l. ⊎_elim (λ k. absurd (clash b a y x k)) (λ k. omega arith) (cases_lt b a)) (cases_lt a b)
    where
      clash : (c d : ℕ) → IsInBlock c point → IsInBlock d point → c < d → ⊥
      clash c d x y less = let h = before-later c point x d less y.inside in let l = y.low in omega arith

  -- what is said of a point by its block
  module _ {X : Type 0} (Says : (block point : ℕ) → X → Type 0) where
    pub record IsPlaced (point : ℕ) (x : X) : Type 0 where
      pub block : ℕ
      pub stands : IsInBlock block point
      pub says : Says block point x

    -- is one thing, where it is one for each block
    pub one-place : ((block point : ℕ) (x y : X) → Says block point x → Says block point y → x ≡ y) → (point : ℕ) (x y : X) → IsPlaced point x → IsPlaced point y → x ≡ y
    one-place one point x y a b = one a.block point x y a.says (subst (λ n. Says n point y) (sym (one-block point a.block b.block a.stands b.stands)) b.says)
