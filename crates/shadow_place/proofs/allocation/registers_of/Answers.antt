use Rattle.std.proofs.Common.{◌≡◌, ◌<◌, ◌≤◌, length, map, take, ap, ◌∙◌, subst}
use Rattle.std.specs.List.{range_with_len}
use Rattle.std.proofs.lemmas.List.{length-take-le}
use Rattle.shadow_place.specs.Registers.{own_register}
use Rattle.shadow_place.specs.Spans.{AreShared, HaveNeeds, numbers_of}
use Rattle.shadow_place.proofs.Allocating.{own_allocation, shared_allocation}
use Rattle.shadow_place.proofs.allocation.registers_of.Goals as goal

pub returns-then-slots-le-HOME_REGISTERS : goal.returns-then-slots-le-HOME_REGISTERS
returns-then-slots-le-HOME_REGISTERS c =
    let f = c.args.known.now.func.now in
    let g = c.args.known.now.lowered.now in
    let registers = c.in_ok-registers.registers.items in
    own_allocation f g c.requires.lowered registers (c.in_ok-registers.ensures ∙ ap (λ slots. map own_register (range_with_len 0 (length slots))) c.as_slice-slots.ensures)
    (subst (λ slots. length slots ≤ 23) c.as_slice-slots.ensures c.if-slots-le-HOME_REGISTERS.true)

pub returns : goal.returns
returns c =
    let f = c.args.known.now.func.now in
    let g = c.args.known.now.lowered.now in
    let graph = c.args.known.now.graph.now in
    let live = c.args.known.now.live.now in
    let many = c.near_count-many.result in
    let spans = c.in_ok-spans.spans.items in
    let registers = c.in_ok-registers-2.registers.items in
    let within : many ≤ length g.slots = subst (λ slots. many ≤ length slots) c.as_slice-slots.ensures c.near_count-many.ensures.within in
    let near_is : c.first_slots-near.result.now ≡ take many g.slots = c.first_slots-near.ensures ∙ ap (take many) c.as_slice-slots.ensures in
    shared_allocation f g c.requires.lowered live c.requires.live graph c.requires.graph many within c.near_count-many.ensures.few spans
    (c.in_ok-spans.ensures.long ∙ (ap length near_is ∙ length-take-le many g.slots within))
    (subst (λ slots. HaveNeeds f.code f.args g live (numbers_of slots) graph.edges graph.sites spans) near_is c.in_ok-spans.ensures.needs)
    registers (subst (AreShared registers) c.as_slice.ensures.value c.in_ok-registers-2.ensures) (subst (λ slots. 23 < length slots) c.as_slice-slots.ensures c.if-slots-le-HOME_REGISTERS.false)
