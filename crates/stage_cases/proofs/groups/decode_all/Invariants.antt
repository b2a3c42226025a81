use Rattle.std.proofs.Common.{◌≡◌, length}
use Rattle.stage_cases.proofs.groups.decode_all.Given as goal

abbrev pub invariant-loop-bits : goal.invariant-loop-bits
invariant-loop-bits l = length l.code.items ≡ l.bits-index
