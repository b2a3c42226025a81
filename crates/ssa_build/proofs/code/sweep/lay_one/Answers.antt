use Rattle.std.proofs.Common.{◌++◌, ◌∷◌, [], List, ap, ◌∙◌, append_assoc}
use Rattle.bril_tree.specs.declared.function_tree.Item.{Item}
use Rattle.ssa_build.specs.code.Layout.{before_by}
use Rattle.ssa_build.proofs.code.sweep.lay_one.Goals as goal

pub returns : goal.returns
returns c =
    let b = before_by c.args.layout.now c.args.now.now c.args.point in
    c.in_ok-push.ensures.ok ∙ ap (λ (m : List Item). m ++ c.in_ok-laid.laid ∷ []) c.in_ok-push_before.ensures ∙ append_assoc c.args.made.now b (c.in_ok-laid.laid ∷ [])
    ∙ ap (λ (x : Item). c.args.made.now ++ (b ++ x ∷ [])) c.in_ok-laid.ensures
