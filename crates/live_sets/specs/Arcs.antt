-- The arcs along which locations are live: from a point back to where a branch to it leaves, with the number of the
-- location that the item there assigns.
use Rattle.std.specs.Prelude.{◌≡◌, ℕ, suc, ◌+◌, ◌==◌, if◌then◌else◌, List, [], ◌∷◌, ◌++◌, length, Option, Some, slice_get}
use Rattle.std.specs.List.{All, Contains, flat_map}
use Rattle.bril_tree.specs.Edge.{Branch, item_branches}
use Rattle.bril_tree.specs.Leaving.{Leaves}
use Rattle.bril_tree.specs.declared.edge.Edge.{Edge}
use Rattle.bril_tree.specs.declared.numbered.Instr.{Instr}
use Rattle.flow_graph.specs.Location.{number_at}
use Rattle.graph_search.specs.Path.{IsBetween}
use Rattle.graph_search.specs.declared.graph.Arc.{Arc}

-- from a point back to one where a branch to it leaves
abbrev pub back_arc : List Instr → (leave to : ℕ) → Arc
back_arc code leave to = record { from = to; to = leave; label = number_at (slice_get code leave) }

-- The arcs are exactly those of the branches, each from where it leaves.
pub record AreBackArcs (code : List Instr) (arcs : List Arc) : Type 0 where
  pub between : All (IsBetween (length code + 1)) arcs
  pub there : (point : ℕ) (branch : Branch) → Leaves code point branch → Contains arcs (back_arc code point branch.to)
  pub only : (arc : Arc) → Contains arcs arc → (point : ℕ) × (branch : Branch) × Leaves code point branch × (arc ≡ back_arc code point branch.to)

-- ---- how they are made

-- from a point back to one that assigns the location of a number
abbrev pub arc_back : (leave : ℕ) → (number : Option ℕ) → (to : ℕ) → Arc
arc_back leave number to = record { from = to; to = leave; label = number }

-- the arc of a branch from an item that assigns the location of the number; an abort has none
abbrev pub plain_arc : Option ℕ → Branch → List Arc
plain_arc number branch = if branch.aborts then [] else (arc_back branch.from number branch.to ∷ [])

-- the arcs of those of these branches that are no aborts
abbrev pub plain_arcs : Option ℕ → List Branch → List Arc
plain_arcs number branches = flat_map (plain_arc number) branches

abbrev pub item_arcs : List Instr → ℕ → Instr → List Arc
item_arcs code p item = plain_arcs (number_at (Some item)) (item_branches code p item)

-- the arcs of items that begin at a point
abbrev pub arcs_from : List Instr → ℕ → List Instr → List Arc
arcs_from code p [] = []
arcs_from code p (item ∷ items) = item_arcs code p item ++ arcs_from code (suc p) items

-- the arc of an edge that leaves elsewhere than at its own item: it is an abort
abbrev pub abort_arc : List Instr → Edge → List Arc
abort_arc code edge = if edge.leave == edge.from then [] else (back_arc code edge.leave edge.to ∷ [])

abbrev pub abort_arcs : List Instr → List Edge → List Arc
abort_arcs code edges = flat_map (abort_arc code) edges
