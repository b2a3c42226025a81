-- How it is found which locations are saved: of each level a graph whose arcs go back between the points where a site of the
-- level is open, and for each label a search from the guards of that level which abort to it.
use Rattle.std.specs.Prelude.{◌≡◌, ℕ, List, None}
use Rattle.std.specs.List.{Contains}
use Rattle.bril_tree.specs.declared.numbered.Instr.{Instr}
use Rattle.bril_tree.specs.Edge.{Branch, branches_at}
use Rattle.graph_search.specs.declared.graph.Arc.{Arc}
use Rattle.placement_laws.specs.Open.{IsOpen, IsWayOut}

-- from the end of a branch back to its item
abbrev pub open_arc : (from to : ℕ) → Arc
open_arc from to = record { from = to; to = from; label = None }

-- The arcs are exactly those of the branches at both ends of which a site of the level is open.
pub record AreOpenArcs (code : List Instr) (level : ℕ) (arcs : List Arc) : Type 0 where
  pub there : (point : ℕ) (branch : Branch) → IsOpen code level point → Contains (branches_at code point) branch → IsOpen code level branch.to → Contains arcs (open_arc point branch.to)
  pub only : (arc : Arc) → Contains arcs arc → (point : ℕ) × (branch : Branch) × IsOpen code level point × Contains (branches_at code point) branch × IsOpen code level branch.to × (arc ≡ open_arc point branch.to)

-- The points are exactly the guards of the level that abort to the label.
pub record AreGuards (code : List Instr) (level label : ℕ) (guards : List ℕ) : Type 0 where
  pub there : (way : Branch) → IsWayOut code level way → way.to ≡ label → Contains guards way.from
  pub only : (guard : ℕ) → Contains guards guard → (way : Branch) × IsWayOut code level way × (way.to ≡ label) × (way.from ≡ guard)
