use Rattle.std.proofs.Common.{◌≡◌}
use Rattle.std.specs.Prelude.{IsTrue}
use Rattle.bril_tree.specs.Operand.{Location}
use Rattle.flow_graph.specs.Location.{number_of}
use Rattle.live_sets.specs.Liveness.{is_live}
use Rattle.shadow_place.specs.Spans.{IsInside}
use Rattle.shadow_place.proofs.Widening.{widen_for}
use Rattle.shadow_place.proofs.needs.cover_open_slot.Goals as goal

pub returns-then-is_live_at : goal.returns-then-is_live_at
returns-then-is_live_at c =
    widen_for (λ n p. (n ≡ c.args.slot) × IsInside c.args.span p) (λ s point. (s ≡ c.args.slot) × ((x : Location) × (number_of x ≡ c.args.number) × IsTrue (is_live c.args.live.now x c.args.site)) × IsInside c.args.span point) c.args.spans.now.items c.cover_span.new.spans.items
    (λ n p h. (h.0, h.2)) c.cover_span.ensures
