use Rattle.std.proofs.Common.{◌≡◌, take}
use Rattle.variable_coloring.specs.LiveWords.{edge_arcs}
use Rattle.variable_coloring.proofs.arcs.edge_arcs.Given as goal

abbrev pub invariant-loop-edge : goal.invariant-loop-edge
invariant-loop-edge l = l.arcs.items ≡ edge_arcs l.code (take l.edge-index l.edges)
