use Rattle.std.proofs.Common.{◌≡◌, ◌<◌}
use Rattle.shadow_place.specs.Spans.{Widens}
use Rattle.shadow_place.proofs.needs.cover_arguments.Given as goal

-- the arguments so far
abbrev pub invariant-loop-k : goal.invariant-loop-k
invariant-loop-k l = Widens (λ slot point. (slot < l.k) × (point ≡ 0)) l.fn.spans.items l.spans.items
