use Rattle.std.proofs.Common.{◌≡◌, map, take}
use Rattle.slot_code.specs.Lowered.{newest_open}
use Rattle.slot_code.proofs.depths.newest_in.Given as goal

abbrev pub invariant-loop-point : goal.invariant-loop-point
invariant-loop-point l = l.newest ≡ map newest_open (take l.point l.graph.sites)
