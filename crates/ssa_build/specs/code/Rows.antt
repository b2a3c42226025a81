-- For each point the labels for which `set`s stand before it: those to which edges leave from a jump there, or by an abort from the
-- speculation that begins there.
use Rattle.std.specs.Prelude.{◌≡◌, ◌≢◌, ◌↔◌, ◌==◌, ◌&&◌, ◌||◌, ℕ, ◌<◌, Bool, not, List, [], length, map, filter, slice_get, slice_index_or}
use Rattle.std.specs.List.{AllPairs, Contains}
use Rattle.bril_tree.specs.declared.edge.Edge.{Edge}
use Rattle.bril_tree.specs.declared.numbered.Instr.{Instr}
use Rattle.flow_graph.specs.Accesses.{Accesses}
use Rattle.flow_graph.specs.declared.reads.Access.{Access}
use Rattle.ssa_laws.specs.inserted_copies.Inserted.{is_jump}
use Rattle.ssa_search.specs.placing.Wanted.{is_label}

-- the edge goes to a label, and the `set`s for it stand before the point where it leaves
abbrev pub leaves_before : List Instr → Edge → Bool
leaves_before code e = is_label (slice_get code e.to) && (is_jump (slice_get code e.leave) || not (e.leave == e.from))

-- the label by the point where the edge leaves
abbrev pub leave_of : Edge → Access
leave_of e = record { item = e.to; location = e.leave }

abbrev pub leaves_of : List Instr → List Edge → List Access
leaves_of code edges = map leave_of (filter (leaves_before code) edges)

-- the row of a point: its labels, each once
pub record IsRow (list : List Access) (point : ℕ) (row : List ℕ) : Type 0 where
  pub differ : AllPairs (λ k j. k ≢ j) row
  pub exact : (k : ℕ) → Contains row k ↔ Accesses list point k

-- the rows of all points
pub record AreRows (code : List Instr) (edges : List Edge) (rows : List (List ℕ)) : Type 0 where
  pub long : length rows ≡ length code
  pub each : (point : ℕ) → point < length code → IsRow (leaves_of code edges) point (slice_index_or rows point [])
