-- Sets of points: marks, and points in order.
use Rattle.std.proofs.Common.{◌≡◌, ◌⊎◌, ◌↔◌, ℕ, zero, suc, ◌+◌, ◌-◌, ◌<◌, ◌≤◌, Bool, true, false, ◌||◌, List, [], ◌∷◌, ◌++◌, length, take, get_or, set, Result, Ok, Err, MatchResult, Some, refl, sym, ap, subst, ◌∙◌, inl, inr, ⊎_elim, arith, nat_cmp}
use Rattle.std.specs.Prelude.{IsTrue, ◌==◌, is_ok, None, slice_get}
use Rattle.std.specs.List.{Contains}
use Rattle.std.specs.List.Sorted.{IsBinarySearchResult, IsNonDecreasing, IsPermutation}
use Rattle.std.proofs.lemmas.Bool.{cases_eq, cases_lt, eq-eqb, eqb-true}
use Rattle.std.proofs.lemmas.List.{get_or-set_same, get_or-set_other, get_or_default, take_more}
use Rattle.std.proofs.lemmas.List.Sorted.{searched, Contains-permutation, IsPermutation-sym}
use Rattle.std.proofs.lemmas.Option.{get_or_from_slice_get, slice_get_within}
use Rattle.bril_tree.specs.Membership.{In}
use Rattle.bril_tree.proofs.Elements.{get_in, past_end}
use Rattle.bril_tree.proofs.Members.{in_contains, contains_in, in_append_left, in_append_right, in_append_cases}
use Rattle.flow_graph.specs.Faults.{IsLeastOf}
use Rattle.live_sets.specs.Among.{is_among}
use Rattle.live_sets.specs.Greatest.{IsGreatestOf}

-- ---- whether a point is among others

by_test : (b c : Bool) → (b ≡ true) ⊎ (c ≡ true) → (b || c) ≡ true
by_test true c h = refl
by_test false c (inl e) = absurd cc
by_test false c (inr e) = e

or_cases : (b c : Bool) → (b || c) ≡ true → (b ≡ true) ⊎ (c ≡ true)
or_cases true c h = inl refl
or_cases false c h = inr h

pub among-in : (point : ℕ) (xs : List ℕ) → is_among point xs ≡ true → In point xs
among-in point [] e = absurd cc
among-in point (x ∷ xs) e = ⊎_elim (λ h. inl (sym (eqb-true x point h))) (λ h. inr (among-in point xs h)) (or_cases (x == point) (is_among point xs) e)

pub in-among : (point : ℕ) (xs : List ℕ) → In point xs → is_among point xs ≡ true
in-among point [] i = absurd i
in-among point (x ∷ xs) (inl e) = by_test (x == point) (is_among point xs) (inl (eq-eqb x point (sym e)))
in-among point (x ∷ xs) (inr i) = by_test (x == point) (is_among point xs) (inr (in-among point xs i))

pub among-contains : (point : ℕ) (xs : List ℕ) → IsTrue (is_among point xs) ↔ Contains xs point
among-contains point xs = ((λ e. contains_in point xs (among-in point xs e)), (λ c. in-among point xs (in_contains point xs c)))

-- ---- a binary search

same_test : (b : Bool) (P : Type 0) (r : Result ℕ ℕ) → (b ≡ true → P) → (P → b ≡ true) → MatchResult r (λ i. P) (λ i. P → ⊥) → is_ok r ≡ b
same_test b P (Ok i) to from h = sym (from h)
same_test true P (Err i) to from h = absurd (h (to refl))
same_test false P (Err i) to from h = refl

pub search-among : (xs : List ℕ) (point : ℕ) (r : Result ℕ ℕ) → IsBinarySearchResult (λ y. nat_cmp y point) xs r → IsNonDecreasing xs → is_ok r ≡ is_among point xs
search-among xs point r search rising = same_test (is_among point xs) (Contains xs point) r (λ e. contains_in point xs (among-in point xs e)) (λ c. in-among point xs (in_contains point xs c)) (by r (searched xs point r search (λ i j low within. rising i j 0 low within)))
  where
    by : (r : Result ℕ ℕ) → MatchResult r (λ i. (i < length xs) × (get_or xs i 0 ≡ point)) (λ i. (i ≤ length xs) × ((k : ℕ) → k < i → get_or xs k 0 < point) × ((k : ℕ) → i ≤ k → k < length xs → point < get_or xs k 0)) → MatchResult r (λ i. Contains xs point) (λ i. Contains xs point → ⊥)
    by (Ok i) h = (i, h.0, any xs i h.0 h.1)
      where
        any : (xs : List ℕ) (i : ℕ) → i < length xs → get_or xs i 0 ≡ point → get_or xs i point ≡ point
        any [] i low e = absurd (omega arith)
        any (x ∷ xs) zero low e = e
        any (x ∷ xs) (suc i) low e = any xs i (omega arith) e
    by (Err i) h = λ c. let same = at_zero xs c.0 c.1 c.2 in ⊎_elim (λ l. let k = h.1 c.0 l in omega arith) (λ l. let k = h.2 c.0 l c.1 in omega arith) (cases_lt c.0 i)
      where
        at_zero : (xs : List ℕ) (i : ℕ) → i < length xs → get_or xs i point ≡ point → get_or xs i 0 ≡ point
        at_zero [] i low e = absurd (omega arith)
        at_zero (x ∷ xs) zero low e = e
        at_zero (x ∷ xs) (suc i) low e = at_zero xs i (omega arith) e

-- ---- marks

-- what is marked so far is what was found so far
abbrev pub AreMarked : List Bool → List ℕ → Type 0
AreMarked marks found = (point : ℕ) → IsTrue (get_or marks point false) ↔ Contains found point

pub one-marked : (marks : List Bool) (found : List ℕ) (q : ℕ) → q < length marks → AreMarked marks found → AreMarked (set marks q true) (found ++ q ∷ [])
one-marked marks found q low are point = ⊎_elim same other (cases_eq point q)
  where
    same : point ≡ q → IsTrue (get_or (set marks q true) point false) ↔ Contains (found ++ q ∷ []) point
    same e = ((λ h. contains_in point (found ++ q ∷ []) (in_append_right point found (q ∷ []) (inl e))), (λ c. ap (λ n. get_or (set marks q true) n false) e ∙ get_or-set_same marks q true false low))

    other : (point ≡ q → ⊥) → IsTrue (get_or (set marks q true) point false) ↔ Contains (found ++ q ∷ []) point
    other d = (
      (λ h. contains_in point (found ++ q ∷ []) (in_append_left point found (q ∷ []) (in_contains point found ((are point).0 (sym (get_or-set_other marks q point true false d) ∙ h))))),
      (λ c. get_or-set_other marks q point true false d ∙ (are point).1 (contains_in point found (⊎_elim (λ i. i) (λ i. absurd (only i)) (in_append_cases point found (q ∷ []) (in_contains point (found ++ q ∷ []) c))))),
    )
      where
        only : In point (q ∷ []) → ⊥
        only (inl e) = d e
        only (inr i) = i

-- one more of those that were found
pub more-marked : (marks : List Bool) (found : List ℕ) (i : ℕ) → i < length found → get_or found i 0 < length marks → AreMarked marks (take i found) → AreMarked (set marks (get_or found i 0) true) (take (i + 1) found)
more-marked marks found i within low are = subst (AreMarked (set marks (get_or found i 0) true)) (sym (take_more found i 0 within)) (one-marked marks (take i found) (get_or found i 0) low are)

-- the same points in another order
pub permuted-among : (xs ys : List ℕ) → IsPermutation xs ys → (point : ℕ) → IsTrue (is_among point ys) ↔ Contains xs point
permuted-among xs ys p point = ((λ e. Contains-permutation ys xs point (IsPermutation-sym xs ys p) ((among-contains point ys).0 e)), (λ c. (among-contains point ys).1 (Contains-permutation xs ys point p c)))

-- ---- the first and the last of points in rising order

pub first-is : (xs : List ℕ) (first : ℕ) → IsNonDecreasing xs → slice_get xs 0 ≡ Some first → IsLeastOf (λ point. IsTrue (is_among point xs)) (Some first)
first-is xs first rising e = ((among-contains first xs).1 (contains_in first xs (get_in xs 0 first e)), λ p h. below p ((among-contains p xs).0 h))
  where
    below : (p : ℕ) → Contains xs p → first ≤ p
    below p c = by c.0 c.1 c.2
      where
        by : (i : ℕ) → i < length xs → get_or xs i p ≡ p → first ≤ p
        by zero low is = omega (arith, get_or_from_slice_get xs 0 first p e, is)
        by (suc i) low is = omega (arith, rising 0 (suc i) p (omega arith) low, get_or_from_slice_get xs 0 first p e, is)

pub last-is : (xs : List ℕ) (last : ℕ) → IsNonDecreasing xs → slice_get xs (length xs - 1) ≡ Some last → IsGreatestOf (λ point. IsTrue (is_among point xs)) (Some last)
last-is xs last rising e = ((among-contains last xs).1 (contains_in last xs (get_in xs (length xs - 1) last e)), λ p h. above p ((among-contains p xs).0 h))
  where
    above : (p : ℕ) → Contains xs p → p ≤ last
    above p c =
        let low = c.1 in
        omega (arith, rising c.0 (length xs - 1) p (omega arith) (omega arith), get_or_from_slice_get xs (length xs - 1) last p e, c.2)

-- ---- the first of points in rising order from a number on

-- the number is one of them
pub next-here : (xs : List ℕ) (from i : ℕ) → IsBinarySearchResult (λ y. nat_cmp y from) xs (Ok i) → IsNonDecreasing xs → IsLeastOf (λ point. (from ≤ point) × IsTrue (is_among point xs)) (Some from)
next-here xs from i search rising = ((omega arith, sym (search-among xs from (Ok i) search rising)), λ p h. h.0)

-- it isn't, and the points before this place are less
module _ (xs : List ℕ) (from place : ℕ) (search : IsBinarySearchResult (λ y. nat_cmp y from) xs (Err place)) (rising : IsNonDecreasing xs) where
  parted : (place ≤ length xs) × ((k : ℕ) → k < place → get_or xs k 0 < from) × ((k : ℕ) → place ≤ k → k < length xs → from < get_or xs k 0)
  parted = searched xs from (Err place) search (λ i j low within. rising i j 0 low within)

  -- each of them from the number on is at this place or after it
  beyond : (p : ℕ) → from ≤ p → (c : Contains xs p) → place ≤ c.0
  beyond p high c = ⊎_elim (λ l. absurd (let less = parted.1 c.0 l in let same = get_or_default xs c.0 p 0 c.1 in omega (arith, c.2))) (λ l. l) (cases_lt c.0 place)

  pub next-later : (next : ℕ) → slice_get xs place ≡ Some next → IsLeastOf (λ point. (from ≤ point) × IsTrue (is_among point xs)) (Some next)
  next-later next e = ((from_on, (among-contains next xs).1 (contains_in next xs (get_in xs place next e))), λ p h. below p h.0 ((among-contains p xs).0 h.1))
    where
      from_on : from ≤ next
      from_on = let low = slice_get_within xs place next e in let more = parted.2 place (omega arith) low in omega (arith, get_or_from_slice_get xs place next 0 e)

      below : (p : ℕ) → from ≤ p → Contains xs p → next ≤ p
      below p high c = omega (arith, rising place c.0 p (beyond p high c) c.1, get_or_from_slice_get xs place next p e, c.2)

  pub next-none : slice_get xs place ≡ None → IsLeastOf (λ point. (from ≤ point) × IsTrue (is_among point xs)) None
  next-none e p h =
      let c = (among-contains p xs).0 h.1 in
      let past = past_end xs place e in
      let low = c.1 in
      let high = beyond p h.0 c in
      omega arith
