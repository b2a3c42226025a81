use Rattle.std.proofs.Common.{◌≡◌, ◌++◌, drop}
use Rattle.dead_code.specs.Work.{assignments_from}
use Rattle.dead_code.proofs.work.assignments_of.Given as goal

abbrev pub invariant-loop-item : goal.invariant-loop-item
invariant-loop-item l = l.assignments.items ++ assignments_from l.item (drop l.item l.code) ≡ assignments_from 0 l.code
