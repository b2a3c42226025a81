use Rattle.std.proofs.Common.{◌∙◌, ap, ◌++◌, ◌∷◌, []}
use Rattle.bril_tree.specs.declared.function_tree.FuncTree.{FuncTree}
use Rattle.bril_demo.proofs.Lists.{made_more}
use Rattle.bril_demo.proofs.demo.demo_tree.Goals as goal

pub loop-j-preserved : goal.loop-j-preserved
loop-j-preserved c =
    c.in_ok-push.ensures.ok ∙ ap (λ (f : FuncTree). c.loop-j.funcs ++ f ∷ []) c.in_ok-demo_function.ensures ∙ made_more _ _ c.loop-j.invariant
