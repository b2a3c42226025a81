use Rattle.std.proofs.Common.{◌≤◌, length}
use Rattle.dead_code.specs.Sweep.{IsSwept}
use Rattle.dead_code.specs.Work.{IsSound, NoneIdle, remaining}
use Rattle.dead_code.proofs.sweep.swept.Given as goal

abbrev pub invariant-loop-point : goal.invariant-loop-point
invariant-loop-point l = record {
  inside : l.point ≤ length l.func.code;
  sound : IsSound l.func.code l.sweep.dead.items;
  none : NoneIdle l.func.code l.sweep.dead.items;
  swept : IsSwept l.func.code (remaining l.func.code l.sweep.dead.items) l.point l.sweep.reads.items l.sweep.assigns.items l.sweep.branch l.sweep.end;
}

abbrev pub decreases-loop-point : goal.decreases-loop-point
decreases-loop-point l = l.point
