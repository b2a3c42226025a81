use Rattle.std.proofs.Common.{◌≡◌, ◌+◌, [], length}
use Rattle.constant_pass.specs.constants.Work.{IsWork, work_left}
use Rattle.constant_pass.proofs.constants.work.settled.Given as goal

abbrev pub invariant-loop-number : goal.invariant-loop-number
invariant-loop-number l = record {
  long : length l.work.reached.items ≡ length l.func.code + 1;
  work : IsWork l.func l.work.known.items l.work.reached.items l.work.points.items l.work.risen.items [];
  none : l.work.points.items ≡ [];
}

abbrev pub decreases-loop-number : goal.decreases-loop-number
decreases-loop-number l = work_left l.work.known.items l.work.reached.items l.work.points.items l.work.risen.items
