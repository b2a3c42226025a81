use Rattle.std.proofs.Common.{◌≡◌, length}
use Rattle.shadow_place.proofs.spans.no_spans.Given as goal

abbrev pub invariant-loop-point : goal.invariant-loop-point
invariant-loop-point l = length l.spans.items ≡ l._point
