use Rattle.std.proofs.Common.{◌≡◌, ◌∷◌, ◌++◌, [], cond, false, length, get_or, sym, ap, ◌∙◌, refl, arith}
use Rattle.std.proofs.lemmas.List.{length-append}
use Rattle.bril_tree.specs.Numbered.{nop_item}
use Rattle.pass_edit_laws.proofs.lemmas.plan.Marked.{nops-nil, nops-push}
use Rattle.dead_code.proofs.edit.emptied_function.Goals as goal

pub loop-item-init : goal.loop-item-init
loop-item-init c = (refl, c.new-code.ensures ∙ sym (nops-nil nop_item c.args.dead.now))

pub loop-item-preserved : goal.loop-item-preserved
loop-item-preserved c =
    let inv = c.loop-item.invariant in
    let dead = c.args.dead.now in
    let item = c.in-Some.item in
    let one : c.emptied_item.result ≡ cond (get_or dead (length c.loop-item.yielded) false) nop_item item =
    c.emptied_item.ensures ∙ ap (λ b. cond b nop_item item) (c.is_marked.ensures ∙ ap (λ n. get_or dead n false) inv.0) in (
      omega (arith, inv.0, length-append c.loop-item.yielded (item ∷ [])),
      c.in_ok-push.ensures.ok ∙ (λ i. inv.1 i ++ one i ∷ []) ∙ sym (nops-push nop_item dead c.loop-item.yielded item),
    )
