-- What a sweep over the items, the last one first, knows at a point.
use Rattle.std.specs.Prelude.{◌≡◌, ◌≢◌, ◌⊎◌, ℕ, ◌+◌, ◌<◌, ◌≤◌, false, List, [], length, Some, slice_get, slice_index}
use Rattle.std.specs.List.{Contains}
use Rattle.bril_tree.specs.Edge.{Branch, branches_from, item_branches}
use Rattle.bril_tree.specs.Membership.{In}
use Rattle.bril_tree.specs.Operand.{Location, reads_of}
use Rattle.bril_tree.specs.Sites.{Opens, item_change}
use Rattle.bril_tree.specs.declared.numbered.Instr.{Instr}
use Rattle.flow_graph.specs.Location.{number_at, number_of}

-- all branches from the item go to the next point, and no abort leads from it
pub record GoesOn (code : List Instr) (point : ℕ) (item : Instr) : Type 0 where
  pub onward : (branch : Branch) → In branch (item_branches code point item) → branch.to ≡ point + 1
  pub plain : item_change (Some item) false ≢ Opens

-- At the point: by the numbers of locations, no item from the point on reads a location before that of `reads`, and that of
-- `assigns` assigns it; all items before that of `branch` go on to the next point, and from that of `end` no branch leads.
-- Labels stand where they do in `code`.
pub record IsSwept (code made : List Instr) (point : ℕ) (reads assigns : List ℕ) (branch end : ℕ) : Type 0 where
  pub unread : (x : Location) (j : ℕ) (item : Instr) → number_of x < length reads → point ≤ j → slice_get made j ≡ Some item → Contains (reads_of item) x → slice_index reads (number_of x) ≤ j
  pub assigned : (k : ℕ) (item : Instr) → k < length assigns → slice_get made (slice_index assigns k) ≡ Some item → number_at (Some item) ≡ Some k
  pub later : (k : ℕ) → k < length assigns → point ≤ slice_index assigns k
  pub plain : (j : ℕ) (item : Instr) → point ≤ j → j < branch → slice_get made j ≡ Some item → GoesOn code j item
  pub ends : branches_from code end (slice_get made end) ≡ []
  pub end_later : point ≤ end

-- The next item that has to do with the location assigns it, or the function ends before.
pub record IsQuiet (reads assigns : List ℕ) (branch end location : ℕ) : Type 0 where
  pub known : location < length reads
  pub assignable : location < length assigns
  pub first : ℕ
  pub is : (first ≡ slice_index assigns location) ⊎ (first ≡ end)
  pub unread : first < slice_index reads location
  pub plain : first < branch

-- These numbers now have the point, and no other is changed.
pub record AreNoted (point : ℕ) (numbers : List ℕ) (old new : List ℕ) : Type 0 where
  pub long : length new ≡ length old
  pub noted : (k : ℕ) → Contains numbers k → k < length old → slice_index new k ≡ point
  pub kept : (k : ℕ) → (slice_index new k ≡ slice_index old k) ⊎ ((slice_index new k ≡ point) × Contains numbers k)
