-- A list with lists put in before and after its items.
use Rattle.std.specs.Prelude.{◌≡◌, ℕ, zero, suc, ◌+◌, ◌<◌, ◌≤◌, List, [], ◌∷◌, ◌++◌, length, Some, slice_get}

module _ {X : Type 0} (before after : ℕ → List X) where
  -- from item k on; what comes before the end comes last
  abbrev pub spliced : ℕ → List X → List X
  spliced k [] = before k
  spliced k (a ∷ items) = before k ++ a ∷ (after k ++ spliced (suc k) items)

  -- where the list before item k begins
  abbrev pub start_of : ℕ → ℕ
  start_of zero = 0
  start_of (suc k) = start_of k + length (before k) + suc (length (after k))

  -- where item k stands
  abbrev pub position_of : ℕ → ℕ
  position_of k = start_of k + length (before k)

-- where the items of a spliced list stand: those that were there, and those put in before and after them
pub record ItemsSpliced (X : Type 0) : Type 0 where
  pub there : (before after : ℕ → List X) (items : List X) (i : ℕ) → i ≤ length items → slice_get (spliced before after 0 items) (position_of before after i) ≡ slice_get items i
  pub in_front : (before after : ℕ → List X) (items : List X) (i n : ℕ) → i ≤ length items → n < length (before i) → slice_get (spliced before after 0 items) (start_of before after i + n) ≡ slice_get (before i) n
  pub next_to : (before after : ℕ → List X) (items : List X) (i n : ℕ) (a : X) → slice_get items i ≡ Some a → n < length (after i) → slice_get (spliced before after 0 items) (suc (position_of before after i) + n) ≡ slice_get (after i) n
