use Rattle.std.proofs.Common.{◌≡◌, slice_index, subst}
use Rattle.std.specs.List.{Contains}
use Rattle.std.proofs.lemmas.List.{get_or_default}
use Rattle.shadow_place.specs.Spans.{Widens}
use Rattle.shadow_place.proofs.Widening.{taken, widen_more}
use Rattle.shadow_place.proofs.spans.cover_all.Goals as goal

pub loop-number-preserved : goal.loop-number-preserved
loop-number-preserved c =
    let numbers = c.args.numbers.now in
    let i = c.loop-number.number-index in
    let number = slice_index numbers i in
    widen_more (λ p. p ≡ c.args.point) numbers i number c.args.spans.now.items c.loop-number.spans.items c.cover.new.spans.items
    c.loop-number-test.true (get_or_default numbers i 0 number c.loop-number-test.true) c.loop-number.invariant c.cover.ensures

pub returns : goal.returns
returns c =
    subst (λ l. Widens (λ n p. Contains l n × (p ≡ c.args.point)) c.args.spans.now.items c.loop-number.spans.items)
    (taken c.args.numbers.now c.loop-number.number-index c.loop-number-test.false c.loop-number.auto.number-index-end) c.loop-number.invariant
