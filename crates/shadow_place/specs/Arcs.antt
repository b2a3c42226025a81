-- The arcs back between the points where a level is open, and the guards of a level, from the edges of a graph and the depths
-- of its points.
use Rattle.std.specs.Prelude.{ℕ, Bool, not, ◌&&◌, ◌==◌, nat_le, List, filter, map, slice_index}
use Rattle.bril_tree.specs.declared.edge.Edge.{Edge}
use Rattle.graph_search.specs.declared.graph.Arc.{Arc}
use Rattle.placement_laws.specs.Search.{open_arc}

-- both ends of an edge have so many sites open
abbrev pub stays_open : List ℕ → ℕ → Edge → Bool
stays_open depths level edge = nat_le level (slice_index depths edge.from) && nat_le level (slice_index depths edge.to)

-- from the end of an edge back to its item
abbrev pub edge_arc : Edge → Arc
edge_arc edge = open_arc edge.from edge.to

abbrev pub open_arcs_of : List ℕ → ℕ → List Edge → List Arc
open_arcs_of depths level edges = map edge_arc (filter (stays_open depths level) edges)

-- the edge is the abort of a guard of the level: it leaves elsewhere than at its item, where so many sites are open
abbrev pub is_way_out : List ℕ → ℕ → Edge → Bool
is_way_out depths level edge = not (edge.leave == edge.from) && (slice_index depths edge.from == level)

abbrev pub guards_of : List ℕ → ℕ → List Edge → List ℕ
guards_of depths level edges = map (λ edge. edge.from) (filter (is_way_out depths level) edges)
