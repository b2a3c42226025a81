use Rattle.std.proofs.Common.{◌≡◌, take}
use Rattle.live_sets.proofs.sorted.SortedPoints.of.Given as goal

abbrev pub invariant-loop-point : goal.invariant-loop-point
invariant-loop-point l = l.points.items ≡ take l.point-index l.found
