-- Where a `get` of a location is wanted, by blocks: in those that read it before they assign it, and from these back over the
-- edges in those that don't assign it before the edge leaves.
use Rattle.std.specs.Prelude.{◌≡◌, ℕ, zero, suc, ◌<◌, ◌≤◌, Bool, true, false, List, Option, Some, slice_get, if◌then◌else◌}
use Rattle.std.specs.List.{Contains}
use Rattle.bril_tree.specs.declared.numbered.Instr.{Instr}
use Rattle.bril_tree.specs.declared.numbered.Instr.TheVariants.{Label}
use Rattle.bril_tree.specs.Assigned.{assigns_at}
use Rattle.bril_tree.specs.Edge.{Branch}
use Rattle.bril_tree.specs.Leaving.{Leaves}
use Rattle.bril_tree.specs.Operand.{Location, reads_of}
use Rattle.bril_tree.specs.Walk.{IsReached}

-- the item is a label
abbrev pub is_label : Option Instr → Bool
is_label (Some (Label l)) = true
is_label _ = false

-- the label at or before a point that is nearest to it, or the first point
abbrev pub head_of : List Instr → ℕ → ℕ
head_of code zero = 0
head_of code (suc i) = if is_label (slice_get code (suc i)) then suc i else head_of code i

-- no item from a point on and before another assigns the location
abbrev pub Unassigned : List Instr → Location → ℕ → ℕ → Type 0
Unassigned code a from to = (q : ℕ) → from ≤ q → q < to → ¬ Contains (assigns_at (slice_get code q)) a

-- the value that the location has where the block begins is wanted
pub data IsWanted (code : List Instr) (a : Location) : ℕ → Type 0 where
  Read : (h i : ℕ) (item : Instr) → h ≡ head_of code i → IsReached code i → slice_get code i ≡ Some item → Contains (reads_of item) a → Unassigned code a h i → IsWanted code a h
  Left : (h k p : ℕ) (branch : Branch) → h ≡ head_of code p → IsReached code p → is_label (slice_get code k) ≡ true → Leaves code p branch → branch.to ≡ k → Unassigned code a h (suc p) → IsWanted code a k → IsWanted code a h
