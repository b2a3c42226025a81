use Rattle.std.proofs.Common.{◌≡◌, ◌++◌}
use Rattle.side_traces.proofs.sweep.append.Given as goal

abbrev pub invariant-loop-item : goal.invariant-loop-item
invariant-loop-item l = l.made ≡ l.initial.made ++ l.yielded
