-- Where the variables of a block are live, 64 at once.
use Rattle.std.specs.Prelude.{◌≡◌, ◌==◌, ◌↔◌, ◌<◌, ◌+◌, ◌*◌, ◌&&◌, not, nat_lt, true, ℕ, Bool, List, length, map, slice_index}
use Rattle.std.specs.List.{Contains}
use Rattle.bril_tree.specs.declared.edge.Edge.{Edge}
use Rattle.bril_tree.specs.declared.numbered.Instr.{Instr}
use Rattle.bril_tree.specs.Edge.{Branch}
use Rattle.bril_tree.specs.Leaving.{Leaves}
use Rattle.bril_tree.specs.Live.{IsLive}
use Rattle.bril_tree.specs.Operand.{Variable}
use Rattle.bril_tree.specs.Walk as walk
use Rattle.definite_assignment.specs.Window.{location_in}
use Rattle.flow_graph.specs.Accesses.{Accesses}
use Rattle.flow_graph.specs.Reads.{reads_from}
use Rattle.flow_graph.specs.declared.reads.Access.{Access}
use Rattle.graph_search.specs.Path.{GraphView, IsReached}
use Rattle.graph_search.specs.Sets.{has_bit, seeds_of}
use Rattle.graph_search.specs.declared.graph.Arc.{Arc}
use Rattle.graph_search.specs.declared.reached_sets.Seed.{Seed}
use Rattle.live_sets.specs.Arcs.{back_arc}

-- variable k of a block
abbrev pub variable_in : (block k : ℕ) → ℕ
variable_in block k = 64 * block + k

-- ---- the arcs along which variables are live

-- from the point to which an edge goes back to the one where it leaves
abbrev pub edge_arc : List Instr → Edge → Arc
edge_arc code edge = back_arc code edge.leave edge.to

abbrev pub edge_arcs : List Instr → List Edge → List Arc
edge_arcs code edges = map (edge_arc code) edges

-- The arcs are those of branches, each from where it leaves, and no branch is missing that leaves from a reached point.
pub record AreReachedArcs (code : List Instr) (arcs : List Arc) : Type 0 where
  pub there : (point : ℕ) (branch : Branch) → walk.IsReached code point → Leaves code point branch → Contains arcs (back_arc code point branch.to)
  pub only : (arc : Arc) → Contains arcs arc → (point : ℕ) × (branch : Branch) × Leaves code point branch × (arc ≡ back_arc code point branch.to)

-- the reads and the arcs are those of these items
pub record AreOfItems (code : List Instr) (reads : List Access) (graph : GraphView) : Type 0 where
  pub points : graph.nodes ≡ length code + 1
  pub items : reads ≡ reads_from 0 code
  pub arcs : AreReachedArcs code graph.arcs

-- the search with each number begins at the items that read its location of the window
abbrev pub AreSeeds : List Access → (window : ℕ) → List Seed → Type 0
AreSeeds reads window seeds = (k node : ℕ) → k < 64 → Contains (seeds_of k seeds) node ↔ Accesses reads (location_in window k) node

-- ---- what is found

-- the word of each node has the searches that reach it
abbrev pub AreFound : (arcs : List Arc) → (seeds : List Seed) → (opens : ℕ → Arc → Bool) → (words : List ℕ) → Type 0
AreFound arcs seeds opens words = (node k : ℕ) → k < 64 → (has_bit (slice_index words node) k ≡ true) ↔ IsReached arcs (seeds_of k seeds) (opens k) node

-- For each point a word, whose bit k is set only where variable k of the block is live; it is set where that is so and the point is
-- reached.
pub record TellLive (code : List Instr) (block : ℕ) (words : List ℕ) : Type 0 where
  pub only : (point k : ℕ) → k < 64 → has_bit (slice_index words point) k ≡ true → IsLive code (Variable (variable_in block k)) point
  pub all : (point k : ℕ) → k < 64 → walk.IsReached code point → IsLive code (Variable (variable_in block k)) point → has_bit (slice_index words point) k ≡ true

-- the points whose words have a bit are there
abbrev pub HasPoints : List ℕ → (points : List ℕ) → Type 0
HasPoints words points = (point k : ℕ) → k < 64 → has_bit (slice_index words point) k ≡ true → Contains points point

-- the arc goes to a point whose word isn't 0
abbrev pub goes_to_live : (words : List ℕ) → (points : ℕ) → Arc → Bool
goes_to_live words points arc = nat_lt arc.to points && not (slice_index words arc.to == 0)
