use Rattle.std.proofs.Common.{◌≡◌, slice_index}
use Rattle.std.specs.Prelude.{IsTrue}
use Rattle.bril_tree.specs.Operand.{Location}
use Rattle.flow_graph.specs.Location.{number_of}
use Rattle.live_sets.specs.Liveness.{is_live}
use Rattle.shadow_place.specs.Spans.{IsInside}
use Rattle.shadow_place.proofs.Needing.{open_slots}
use Rattle.shadow_place.proofs.Widening.{widen_next}
use Rattle.shadow_place.proofs.needs.cover_open.Goals as goal

pub loop-slot-preserved : goal.loop-slot-preserved
loop-slot-preserved c =
    widen_next (λ k s point. (s ≡ k) × ((x : Location) × (number_of x ≡ slice_index c.args.numbers.now k) × IsTrue (is_live c.args.live.now x c.args.site)) × IsInside c.args.span point) c.loop-slot.slot c.args.spans.now.items c.loop-slot.spans.items c.cover_open_slot.new.spans.items c.loop-slot.invariant c.cover_open_slot.ensures

pub returns : goal.returns
returns c = open_slots c.args.live.now c.args.numbers.now c.loop-slot.slot c.args.site c.args.span c.args.spans.now.items c.loop-slot.spans.items c.loop-slot-test.false c.loop-slot.invariant
