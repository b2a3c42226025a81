use Rattle.std.proofs.Common.{◌≡◌, take}
use Rattle.std.specs.List.{Contains}
use Rattle.shadow_place.specs.Spans.{Widens}
use Rattle.shadow_place.proofs.spans.cover_all.Given as goal

abbrev pub invariant-loop-number : goal.invariant-loop-number
invariant-loop-number l = Widens (λ n p. Contains (take l.number-index l.numbers) n × (p ≡ l.point)) l.fn.spans.items l.spans.items
