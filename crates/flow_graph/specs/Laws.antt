-- Laws of walks, of their open sites and of edges.
use Rattle.std.specs.Prelude.{◌≡◌, ◌↔◌, ℕ, List}
use Rattle.std.specs.List.{Contains}
use Rattle.bril_tree.specs.declared.edge.Edge.{Edge}
use Rattle.bril_tree.specs.declared.numbered.Instr.{Instr}
use Rattle.bril_tree.specs.Edge.{Branch}
use Rattle.bril_tree.specs.Leaving.{IsEdge, Leaves}
use Rattle.bril_tree.specs.Sites.{AreFirstSites, AreSitesSound, sites_of}
use Rattle.bril_tree.specs.Walk.{IsWalk, IsReached, IsFirstWalk, end_of}
use Rattle.flow_graph.specs.Graph.{GraphView, IsGraphOf}

-- each point that some walk leads to has one first walk
abbrev pub ReachedHaveFirstWalk : Type 0
ReachedHaveFirstWalk = (code : List Instr) (point : ℕ) → IsReached code point → (walk : List Branch) × IsFirstWalk code point walk

abbrev pub FirstWalksAreOne : Type 0
FirstWalksAreOne = (code : List Instr) (point : ℕ) (v w : List Branch) → IsFirstWalk code point v → IsFirstWalk code point w → v ≡ w

-- where the sites fail nowhere, all walks to a point bring the sites of its first walk
abbrev pub SoundWalksAgree : Type 0
SoundWalksAgree = (code : List Instr) → AreSitesSound code → (walk : List Branch) → IsWalk code walk → (sites : List ℕ) →
    AreFirstSites code (end_of walk) sites → sites_of code walk ≡ sites

-- where the sites fail nowhere, the edges of a graph are those of its function
abbrev pub GraphsHaveAllEdges : Type 0
GraphsHaveAllEdges = (code : List Instr) (graph : GraphView) → AreSitesSound code → IsGraphOf code graph → (edge : Edge) → Contains graph.edges edge ↔ IsEdge code edge

-- an edge is a branch from the point where it leaves
abbrev pub EdgesLeave : Type 0
EdgesLeave = (code : List Instr) → AreSitesSound code → (edge : Edge) → IsEdge code edge → (branch : Branch) × Leaves code edge.leave branch × (branch.to ≡ edge.to)

-- and each branch from a point that a walk leads to is an edge
abbrev pub LeavingAreEdges : Type 0
LeavingAreEdges = (code : List Instr) (point : ℕ) (branch : Branch) → IsReached code point → Leaves code point branch → (edge : Edge) × IsEdge code edge × (edge.leave ≡ point) × (edge.to ≡ branch.to)
