use Rattle.std.proofs.Common.{◌<◌, length, set, sym, subst, ◌∙◌, arith}
use Rattle.std.proofs.lemmas.List.{get_or_read}
use Rattle.constant_pass.specs.declared.constants.known.Known.TheVariants.{Nothing}
use Rattle.constant_pass.specs.constants.Work.{Raises}
use Rattle.constant_pass.proofs.lemmas.constants.Stepping.{raised-up}
use Rattle.constant_pass.proofs.constants.work.Work.raise.Goals as goal

pub returns-clause-raised : goal.returns-clause-raised
returns-clause-raised c =
    let known = c.args.self.now.known.items in
    let risen = c.args.self.now.risen.items in
    let low : c.args.number < length known = omega (arith, c.if-k-len.false, c.len.ensures) in
    subst (λ l. Raises c.args.number c.args.to known (set known c.args.number c.joined-new.result) risen l) (sym c.in_ok-push.ensures.items)
    (raised-up c.args.number c.args.to c.index-old.result.now c.joined-new.result known risen low (get_or_read known c.args.number c.index-old.result.now low c.index-old.ensures Nothing)
    c.joined-new.ensures.left c.joined-new.ensures.right c.joined-new.ensures.least (λ e. c.if-height.false (c.height.ensures ∙ e ∙ sym c.height-2.ensures)))
