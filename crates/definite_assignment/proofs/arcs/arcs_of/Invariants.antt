use Rattle.std.proofs.Common.{◌≡◌, map, take}
use Rattle.definite_assignment.specs.Leaving.{leaving_arc}
use Rattle.definite_assignment.proofs.arcs.arcs_of.Given as goal

abbrev pub invariant-loop-edge : goal.invariant-loop-edge
invariant-loop-edge l = l.arcs.items ≡ map (leaving_arc l.code) (take l.edge-index l.edges)
