-- The passes that come with the program.
use Rattle.std.specs.Prelude.{◌≡◌, true, List, [], ◌∷◌}
use Rattle.bril_profile.specs.declared.profile.Profile.{Profile}
use Rattle.bril_tree.specs.declared.program.Prog.{Prog}
use Rattle.coalesce.proofs.Shipped.{merge_shipped}
use Rattle.constant_pass.proofs.Shipped.{const_shipped}
use Rattle.dead_code.proofs.Shipped.{dead_shipped}
use Rattle.pass_budget_laws.specs.Rows.{Row}
use Rattle.pass_budget_laws.specs.Shipped.{Shipped, rows_of}
use Rattle.pass_law.specs.Meaning.{Meaning, SameMeaning}
use Rattle.side_laws.proofs.Shipped.{side_shipped}
use Rattle.ssa_exit.proofs.Shipped.{unssa_shipped}
use Rattle.ssa_form_laws.proofs.Shipped.{ssa_shipped}
use Rattle.tidy_code.proofs.Shipped.{tidy_shipped}
use Rattle.trace_laws.proofs.Shipped.{trace_shipped}
use Rattle.variable_coloring.proofs.Shipped.{color_shipped}

-- all of them, in their order
abbrev pub shipped : List Shipped
shipped = trace_shipped ∷ ssa_shipped ∷ const_shipped ∷ dead_shipped ∷ unssa_shipped ∷ merge_shipped ∷ tidy_shipped ∷ side_shipped ∷ color_shipped ∷ []

abbrev pub shipped_rows : List Row
shipped_rows = rows_of shipped

-- whatever m makes of a program, n makes too
abbrev pub MakesOnly : Meaning → Meaning → Type 0
MakesOnly m n = (p : Prog) (profile : Profile) (q : Prog) → m.Makes p profile q → n.Makes p profile q

-- A pass that answers to the name of one of these makes only what that one makes.
abbrev pub MakesAsEach : List Shipped → Meaning → Type 0
MakesAsEach [] m = Unit {0}
MakesAsEach (s ∷ rest) m = (m.answers s.row.name ≡ true → MakesOnly m s.meaning) × MakesAsEach rest m

-- A pass that answers to the name of a shipped pass makes only what that pass makes.
pub record MakesAsShipped (m : Meaning) : Type 0 where
  pub each : MakesAsEach shipped m

-- each pass means what the one of its place does
abbrev pub MeanEach : {B : Type 0} → (B → Meaning) → List Shipped → List B → Type 0
MeanEach meaning [] [] = Unit {0}
MeanEach meaning [] (p ∷ passes) = ⊥
MeanEach meaning (s ∷ rest) [] = ⊥
MeanEach meaning (s ∷ rest) (p ∷ passes) = SameMeaning s.meaning (meaning p) × MeanEach meaning rest passes

-- These are the shipped passes, in their order.
pub record AreShipped {B : Type 0} (meaning : B → Meaning) (passes : List B) : Type 0 where
  pub each : MeanEach meaning shipped passes
