-- Refinement of programs composes.
use Rattle.std.proofs.Common.{ℕ, ◌*◌, ◌≤◌, refl, ◌∙◌, subst, arith, List, Option}
use Rattle.std.specs.List.{AllZip}
use Rattle.simulation.proofs.Refinement.{Follows-refl, Follows-trans}
use Rattle.bril_tree.specs.declared.program.Prog.{Prog}
use Rattle.bril_tree.specs.declared.types.Ty.{Ty}
use Rattle.bril_tree.specs.Run.{program, first_state, FitMain, Suits, Refines}

pub Refines-refl : (p : Prog) → Refines p p 1
Refines-refl p = record {
  same_types = refl;
  positive = omega arith;
  follows = λ limits args fit. Follows-refl (program p limits) (first_state p limits args);
}

pub Refines-trans : (p q r : Prog) (k j : ℕ) → Refines p q k → Refines q r j → Refines p r (k * j)
Refines-trans p q r k j a b = record {
  same_types = a.same_types ∙ b.same_types;
  positive = product k j a.positive b.positive;
  follows = λ limits args fit.
      let fit_q : FitMain q args = subst (λ (types : List (Option Ty)). AllZip Suits args types) a.same_types fit in
      Follows-trans (program p limits) (program q limits) (program r limits) k j (first_state p limits args) (first_state q limits args) (first_state r limits args) (a.follows limits args fit) (b.follows limits args fit_q);
}
  where
    product : (k j : ℕ) → 1 ≤ k → 1 ≤ j → 1 ≤ k * j
    product k j h i = grind arith
