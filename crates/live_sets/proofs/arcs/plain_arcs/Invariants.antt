use Rattle.std.proofs.Common.{◌≡◌, ◌++◌, drop}
use Rattle.live_sets.specs.Arcs.{arcs_from}
use Rattle.live_sets.proofs.arcs.plain_arcs.Given as goal

abbrev pub invariant-loop-point : goal.invariant-loop-point
invariant-loop-point l = l.arcs.items ++ arcs_from l.code l.point (drop l.point l.code) ≡ arcs_from l.code 0 l.code
