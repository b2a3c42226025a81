use Rattle.std.proofs.Common.{◌<◌, length, get_or, sym, subst, ◌∙◌, arith}
use Rattle.std.specs.List.{Contains}
use Rattle.std.proofs.lemmas.List.Elements.{Contains-get_or}
use Rattle.coalesce.proofs.Looking.{some-clash, clash-more, none-clash, at-place}
use Rattle.coalesce.proofs.classes.Classes.clashes.Goals as goal

pub returns-then-keeps_apart-clause-some : goal.returns-then-keeps_apart-clause-some
returns-then-keeps_apart-clause-some c = λ _.
    let list = c.args.clashes.now.list.items in
    let places = c.as_slice-place-items.result.now in
    let place = get_or places c.loop-place.place-index 0 in
    let same = c.as_slice-place-items.ensures.value in
    let low : place < length list = subst (λ l. get_or l c.loop-place.place-index 0 < length list) (sym same) (c.in_ok-places.ensures.within c.loop-place.place-index 0 (subst (λ l. c.loop-place.place-index < length l) same c.loop-place-test.true)) in
    some-clash c.args.func.now.code list c.args.self.now.class.items c.args.x c.args.class place c.index.result.now low c.index.ensures
    (c.in_ok-places.ensures.only place c.index.result.now (at-place list place c.index.result.now low c.index.ensures) (subst (λ l. Contains l place) same (Contains-get_or places c.loop-place.place-index 0 c.loop-place-test.true)))
    (sym c.keeps_apart.ensures ∙ c.if-keeps_apart.true)

pub loop-place-preserved : goal.loop-place-preserved
loop-place-preserved c =
    let list = c.args.clashes.now.list.items in
    let places = c.as_slice-place-items.result.now in
    let place = get_or places c.loop-place.place-index 0 in
    let same = c.as_slice-place-items.ensures.value in
    let low : place < length list = subst (λ l. get_or l c.loop-place.place-index 0 < length list) (sym same) (c.in_ok-places.ensures.within c.loop-place.place-index 0 (subst (λ l. c.loop-place.place-index < length l) same c.loop-place-test.true)) in
    clash-more c.args.func.now.code list c.args.self.now.class.items c.args.class places c.loop-place.place-index 0 c.index.result.now c.loop-place-test.true low c.index.ensures (sym c.keeps_apart.ensures ∙ c.if-keeps_apart.false) c.loop-place.invariant

pub returns-clause-none : goal.returns-clause-none
returns-clause-none c = λ _.
    let places = c.as_slice-place-items.result.now in
    let same = c.as_slice-place-items.ensures.value in
    let over = c.loop-place-test.false in
    none-clash c.args.func.now.code c.args.clashes.now.list.items c.args.self.now.class.items c.args.x c.args.class places c.loop-place.place-index (omega (arith, over))
    (λ place d at one. subst (λ l. Contains l place) (sym same) (c.in_ok-places.ensures.all place d at one)) c.loop-place.invariant
