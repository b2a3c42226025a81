use Rattle.std.proofs.Common.{◌≡◌, ◌+◌, ◌≤◌, [], length}
use Rattle.constant_pass.specs.constants.Work.{IsWork, work_left}
use Rattle.constant_pass.proofs.constants.work.Work.visit_points.Given as goal

abbrev pub invariant-loop-point : goal.invariant-loop-point
invariant-loop-point l = record {
  long : length l.self.reached.items ≡ length l.func.code + 1;
  work : IsWork l.func l.self.known.items l.self.reached.items l.self.points.items l.self.risen.items [];
  less : work_left l.self.known.items l.self.reached.items l.self.points.items l.self.risen.items ≤ work_left l.fn.self.known.items l.fn.self.reached.items l.fn.self.points.items l.fn.self.risen.items;
}

abbrev pub decreases-loop-point : goal.decreases-loop-point
decreases-loop-point l = work_left l.self.known.items l.self.reached.items l.self.points.items l.self.risen.items
