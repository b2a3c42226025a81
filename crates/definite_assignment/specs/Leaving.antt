-- The arcs along which a location stays unassigned: an edge goes from the point where it leaves, labelled with the number
-- of the location that the item there assigns.
use Rattle.std.specs.Prelude.{List, map, slice_get}
use Rattle.bril_tree.specs.declared.numbered.Instr.{Instr}
use Rattle.flow_graph.specs.Location.{number_at}
use Rattle.bril_tree.specs.declared.edge.Edge.{Edge}
use Rattle.graph_search.specs.declared.graph.Arc.{Arc}

abbrev pub leaving_arc : List Instr → Edge → Arc
leaving_arc code edge = record { from = edge.leave; to = edge.to; label = number_at (slice_get code edge.leave) }

abbrev pub leaving_arcs : List Instr → List Edge → List Arc
leaving_arcs code edges = map (leaving_arc code) edges

-- the same arc backwards
abbrev pub turned : Arc → Arc
turned arc = record { from = arc.to; to = arc.from; label = arc.label }
