-- The pass in the box makes as a shipped pass does, or answers to no name of one.
use Rattle.std.proofs.Common.{refl, subst}
use Rattle.shipped_passes.specs.Shipped.{MakesAsShipped}
use Rattle.code_tests.proofs.Boxes.{box-makes, stranger-makes}
use Rattle.code_tests.proofs.passes.boxed_lacking.Goals as goal
use Rattle.code_tests.proofs.passes.boxed_lacking.Hides.{has-1-1}

pub returns : goal.returns
returns g c = box-makes (λ p. (goal.Pass-dyn g (p.vtable, p.value)).meaning p.value) _ c.into_dyn_box.result c.into_dyn_box.ensures.0
    (λ p a. subst (λ z. (x : _) → MakesAsShipped (z.1.meaning x)) ((has-1-1 g.dyn-1.0 g.dyn-1-has).same tt) (λ x. stranger-makes _ refl))
