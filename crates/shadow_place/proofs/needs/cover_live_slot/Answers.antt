use Rattle.std.proofs.Common.{◌≡◌}
use Rattle.std.specs.Prelude.{IsTrue}
use Rattle.bril_tree.specs.Operand.{Location}
use Rattle.flow_graph.specs.Location.{number_of}
use Rattle.live_sets.specs.Liveness.{is_live}
use Rattle.shadow_place.specs.Spans.{IsInside}
use Rattle.shadow_place.proofs.Widening.{widen_for}
use Rattle.shadow_place.proofs.needs.cover_live_slot.Goals as goal

pub returns-in-Some : goal.returns-in-Some
returns-in-Some c =
    widen_for (λ n p. (n ≡ c.args.slot) × IsInside c.in-Some.span p) (λ s point. (s ≡ c.args.slot) × ((x : Location) × (number_of x ≡ c.args.number) × IsTrue (is_live c.args.live.now x point))) c.args.spans.now.items c.cover_span.new.spans.items
    (λ n p h. (h.0, c.in-Some.ensures.some h.1.0 p h.1.1 h.1.2)) c.cover_span.ensures
