use Rattle.std.proofs.Common.{ℕ, ◌<◌}
use Rattle.bril_checker.specs.Faults.{LeavesOpen}
use Rattle.bril_checker.proofs.walks.first_open.Given as goal

-- no walk comes with open sites to such a point so far
abbrev pub invariant-loop-point : goal.invariant-loop-point
invariant-loop-point l = (k : ℕ) → k < l.point → ¬ LeavesOpen l.func k
