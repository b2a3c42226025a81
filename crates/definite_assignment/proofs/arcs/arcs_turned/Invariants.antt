use Rattle.std.proofs.Common.{◌≡◌, map, take}
use Rattle.definite_assignment.specs.Leaving.{turned}
use Rattle.definite_assignment.proofs.arcs.arcs_turned.Given as goal

abbrev pub invariant-loop-arc : goal.invariant-loop-arc
invariant-loop-arc l = l.back.items ≡ map turned (take l.arc-index l.arcs)
