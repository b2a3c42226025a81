use Rattle.std.proofs.Common.{◌<◌, ap, sym, ◌∙◌, arith, Err}
use Rattle.serde_json.specs.View.{view}
use Rattle.bril_json.proofs.Pointers.{at_text, at_none, at_last, at_pointer}
use Rattle.bril_json.proofs.types.+type_within.Goals as goal

pub returns-in-Some : goal.returns-in-Some
returns-in-Some t c = c.base_of.ensures ∙ sym (at_text c.args.position c.args.left (view c.args.value.now) _ (sym c.in-Some.ensures))

pub returns-in-None-get : goal.returns-in-None-get
returns-in-None-get t c = ap Err c.shape.ensures ∙ sym (at_none c.args.position c.args.left (view c.args.value.now) (sym c.in-None.ensures) (sym c.in-None-get.ensures))

pub returns-in-Some-get : goal.returns-in-Some-get
returns-in-Some-get t c =
    ap Err c.deep.ensures ∙ sym (at_last c.args.position c.args.left (view c.args.value.now) _ (sym c.in-None.ensures) (sym c.in-Some-get.ensures) c.if-left-eq0.true)

pub returns-in-Some-2 : goal.returns-in-Some-2
returns-in-Some-2 t c =
    let some : 0 < c.args.left = omega arith in
    c.type_within.ensures ∙ sym (at_pointer c.args.position c.args.left (view c.args.value.now) _ (sym c.in-None.ensures) (sym c.in-Some-get.ensures) some)
