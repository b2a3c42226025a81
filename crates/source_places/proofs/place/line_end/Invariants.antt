-- No line ended so far.
use Rattle.std.proofs.Common.{ℕ, ◌≢◌, ◌<◌, ◌≤◌, get_or}
use Rattle.source_places.proofs.place.line_end.Given as goal

abbrev pub invariant-loop-i : goal.invariant-loop-i
invariant-loop-i l = (k : ℕ) → l.at ≤ k → k < l.i → get_or l.source k 0 ≢ 10
