-- The variables of a function that are live at its points.
use Rattle.std.specs.Prelude.{◌≡◌, ℕ, ◌<◌, IsTrue, List, [], length, Some, slice_get, slice_index_or}
use Rattle.bril_tree.specs.Operand.{Variable}
use Rattle.live_sets.specs.declared.live.Live.{Live}
use Rattle.live_sets.specs.Liveness.{is_live}

-- They are those of the first so many variables that are live at the point, in rising order.
pub record AreLiveVariables (live : Live) (count point : ℕ) (variables : List ℕ) : Type 0 where
  pub are : (k x : ℕ) → slice_get variables k ≡ Some x → (x < count) × IsTrue (is_live live (Variable x) point)
  pub rising : (j k x y : ℕ) → j < k → slice_get variables j ≡ Some x → slice_get variables k ≡ Some y → x < y
  pub all : (x : ℕ) → x < count → IsTrue (is_live live (Variable x) point) → (k : ℕ) × (slice_get variables k ≡ Some x)

-- the row of a point, and an empty one past the last
abbrev pub row : List (List ℕ) → ℕ → List ℕ
row rows point = slice_index_or rows point []

-- each point has a row, and it has these variables
abbrev pub AreLiveRows : Live → ℕ → List (List ℕ) → Type 0
AreLiveRows live count rows = (point : ℕ) → point < length rows → AreLiveVariables live count point (row rows point)
