-- The plan of the pass.
use Rattle.std.specs.Prelude.{◌≡◌, ◌⊎◌, suc, None, slice_get}
use Rattle.bril_tree.specs.declared.program.Prog.{Prog}
use Rattle.pass_edit_laws.specs.names.NamedPlan.{NamePlan, plan}
use Rattle.pass_edit_laws.specs.plan.Plan.{Plan}

-- The result stands one point further, or both stand where a function begins. All locations of one name match, and
-- nothing is known of their values.
abbrev pub padding : Prog → Prog → NamePlan
padding P Q = record {
  PointsMatch = λ f i j. (j ≡ suc i) ⊎ ((i ≡ 0) × (j ≡ 0));
  Matters = λ f i a. Unit {0};
  IsRegular = λ f i j. (j ≡ suc i) ⊎ (slice_get P.funcs f ≡ None);
  IsKnown = λ f i a v. ⊥;
}

abbrev pub pad_plan : Prog → Prog → Plan
pad_plan P Q = plan P Q (padding P Q)
