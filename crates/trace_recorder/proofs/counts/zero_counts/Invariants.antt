use Rattle.std.proofs.Common.{◌≡◌, map, take}
use Rattle.trace_recorder.specs.Counts.{zero_counts}
use Rattle.trace_recorder.proofs.counts.zero_counts.Given as goal

abbrev pub invariant-loop-func : goal.invariant-loop-func
invariant-loop-func l = map (λ c. c.items) l.counts.items ≡ zero_counts (take l.func-index l.funcs)
