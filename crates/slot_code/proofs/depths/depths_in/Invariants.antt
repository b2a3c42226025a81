use Rattle.std.proofs.Common.{◌≡◌, map, take}
use Rattle.slot_code.specs.Lowered.{open_count}
use Rattle.slot_code.proofs.depths.depths_in.Given as goal

abbrev pub invariant-loop-point : goal.invariant-loop-point
invariant-loop-point l = l.depths ≡ map open_count (take l.point l.graph.sites)
