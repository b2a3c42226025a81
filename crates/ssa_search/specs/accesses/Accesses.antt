-- What the blocks of a function read before they assign it, and where each of them assigns a location first.
use Rattle.std.specs.Prelude.{◌≡◌, ◌↔◌, ℕ, ◌<◌, ◌≤◌, Bool, true, false, nat_le, List, [], ◌∷◌, length, suc, slice_get, slice_index, slice_set, Option, Some, None, if◌then◌else◌}
use Rattle.std.specs.List.{Contains, flat_map}
use Rattle.bril_tree.specs.Assigned.{assigns_at}
use Rattle.bril_tree.specs.declared.numbered.Instr.{Instr}
use Rattle.bril_tree.specs.Operand.{Location}
use Rattle.flow_graph.specs.Accesses.{Accesses}
use Rattle.flow_graph.specs.Location.{number_of}
use Rattle.flow_graph.specs.declared.reads.Access.{Access}
use Rattle.graph_search.specs.Path.{GraphView}
use Rattle.ssa_search.specs.placing.Blocks.{AreBlockArcs, IsExposed}
use Rattle.ssa_search.specs.placing.Wanted.{head_of, Unassigned}

-- the item at the point assigns the location, and none before it in its block does
pub record AssignsFirst (code : List Instr) (a : Location) (point : ℕ) : Type 0 where
  pub assigns : Contains (assigns_at (slice_get code point)) a
  pub unassigned : Unassigned code a (head_of code point) point

-- For each location: the labels of the blocks that read it before they assign it, and the points that assign it first in their
-- blocks.
pub record AreBlockAccesses (code : List Instr) (reads writes : List Access) : Type 0 where
  pub exposed : (a : Location) (h : ℕ) → Accesses reads (number_of a) h ↔ IsExposed code a h
  pub firsts : (a : Location) (point : ℕ) → Accesses writes (number_of a) point ↔ AssignsFirst code a point

-- ---- how they are found: the array has one past the last point that assigns each location, 0 where none does

-- the read, where the location wasn't assigned from the head on
abbrev pub exposed_read : ℕ → List ℕ → Access → List Access
exposed_read head last read = if nat_le (slice_index last read.location) head then record { item = head; location = read.location } ∷ [] else []

abbrev pub exposed_reads : ℕ → List ℕ → List Access → List Access
exposed_reads head last reads = flat_map (exposed_read head last) reads

-- the same, where the reads count
abbrev pub exposed_if : Bool → ℕ → List ℕ → List Access → List Access
exposed_if false head last reads = []
exposed_if true head last reads = exposed_reads head last reads

-- the assignment of a location, where that wasn't assigned from the head on
abbrev pub first_write : ℕ → ℕ → List ℕ → Option ℕ → List Access
first_write point head last None = []
first_write point head last (Some location) = if nat_le (slice_index last location) head then record { item = point; location = location } ∷ [] else []

-- the array behind it
abbrev pub last_behind : ℕ → List ℕ → Option ℕ → List ℕ
last_behind point last None = last
last_behind point last (Some location) = slice_set last location (suc point)

-- one past the last point before a bound that assigns the location
pub record IsLastWrite (code : List Instr) (a : Location) (bound end : ℕ) : Type 0 where
  pub within : end ≤ bound
  pub stands : (q : ℕ) → suc q ≡ end → Contains (assigns_at (slice_get code q)) a
  pub after : (q : ℕ) → end ≤ q → q < bound → ¬ Contains (assigns_at (slice_get code q)) a

-- what is found of the points before a bound
pub record AreAccessesBefore (code : List Instr) (bound : ℕ) (last : List ℕ) (exposed firsts : List Access) : Type 0 where
  pub last_write : (a : Location) → number_of a < length last → IsLastWrite code a bound (slice_index last (number_of a))
  pub exposed_there : (a : Location) (h : ℕ) (x : IsExposed code a h) → x.point < bound → Accesses exposed (number_of a) h
  pub exposed_only : (a : Location) (h : ℕ) → Accesses exposed (number_of a) h → (x : IsExposed code a h) × (x.point < bound)
  pub firsts_there : (a : Location) (point : ℕ) → AssignsFirst code a point → point < bound → Accesses firsts (number_of a) point
  pub firsts_only : (a : Location) (point : ℕ) → Accesses firsts (number_of a) point → AssignsFirst code a point × (point < bound)

-- ---- the blocks of a function

-- what is asked of them: heads, the arcs between them, and their accesses
pub record AreBlocksOf (code : List Instr) (begins : List ℕ) (graph : GraphView) (reads writes : List Access) : Type 0 where
  pub long : length begins ≡ length code
  pub heads : (point : ℕ) → point < length code → slice_index begins point ≡ head_of code point
  pub nodes : graph.nodes ≡ length code
  pub arcs : AreBlockArcs code graph.arcs
  pub accesses : AreBlockAccesses code reads writes
