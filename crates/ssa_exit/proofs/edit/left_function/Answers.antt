use Rattle.std.proofs.Common.{◌∷◌, ◌++◌, [], refl, sym, ap, ◌∙◌, arith}
use Rattle.std.specs.Prelude.{slice_get}
use Rattle.std.proofs.lemmas.List.{length-append}
use Rattle.ssa_exit.specs.Fresh.{shadow_names}
use Rattle.ssa_exit.proofs.Items.{left-none, left-push}
use Rattle.ssa_exit.proofs.edit.left_function.Goals as goal

pub loop-item-init : goal.loop-item-init
loop-item-init c = (refl, c.new-code.ensures ∙ sym (left-none c.args.func.now (shadow_names c.args.stem.now c.args.func.now.vars) c.args.func.now.code))

pub loop-item-preserved : goal.loop-item-preserved
loop-item-preserved c =
    let F = c.args.func.now in
    let inv = c.loop-item.invariant in
    let left = c.in_ok-left_at.ensures in (
      omega (arith, inv.0, length-append c.loop-item.yielded (c.in-Some.item ∷ [])),
      c.in_ok-push.ensures.ok ∙ (λ i. inv.1 i ++ left.2 i ∷ [])
          ∙ sym (left-push F (shadow_names c.args.stem.now F.vars) F.code c.loop-item.yielded c.in-Some.item left.0 (ap (slice_get F.code) (sym inv.0) ∙ left.1)),
    )
