use Rattle.std.proofs.Common.{◌<◌, length, ap, ◌∙◌, subst}
use Rattle.bril_tree.specs.declared.program.Prog.{Prog}
use Rattle.shadow_place.proofs.Telling.{more_lives}
use Rattle.shadow_place.proofs.lives.all_lives.Goals as goal

pub loop-number-preserved : goal.loop-number-preserved
loop-number-preserved c =
    let p = c.args.prog.now.prog in
    let same = c.as_slice-number-end.ensures ∙ ap (λ (q : Prog). q.funcs) c.prog.ensures.value in
    let less : c.loop-number.number < length p.funcs = subst (λ l. c.loop-number.number < length l) same c.loop-number-test.true in
    more_lives p c.loop-number.number c.loop-number.lives c.push.new.self c.in_ok-of.field-0 less c.loop-number.invariant c.in_ok-of.ensures c.in_ok-push.ensures.ok
