-- Outcomes depend on what is read alone.
use Rattle.std.proofs.Common.{◌≡◌, ℕ, Bool, true, List, length, Option, ap, ◌∙◌}
use Rattle.std.specs.Prelude.{is_some}
use Rattle.bril_tree.specs.declared.operation.Op.{Op}
use Rattle.bril_tree.specs.declared.types.Ty.{Ty}
use Rattle.bril_tree.specs.Operand.{Location, locations_read, reading_of}
use Rattle.bril_tree.specs.Outcome.{action_outcome}
use Rattle.bril_tree.specs.Shape.{is_action_shaped}
use Rattle.bril_tree.specs.State.{Locals}
use Rattle.bril_tree.proofs.Outcomes.{action-same as same_operands-same}
use Rattle.pass_edit_laws.specs.plan.Plan.{ValuesMatch, ActionsMatch}
use Rattle.pass_edit_laws.proofs.lemmas.plan.Values.{zip-alike}

module _ (A : Location → Location → Type 0) (p q : Locals) (agree : ValuesMatch A p q) where
  pub action-same : (returns : Bool) (o : Op) (d e : Option ℕ) (s t : Option Ty) (args result_args fs gs : List ℕ) (labels : ℕ) → is_action_shaped returns o (is_some d) (length args) (length fs) labels ≡ true → ActionsMatch A o o d e s t args result_args fs gs
      → action_outcome o d s args p ≡ action_outcome o e t result_args q
  action-same returns o d e s t args result_args fs gs labels shaped h =
      ap (λ ty. action_outcome o d ty args p) h.ty
      ∙ same_operands-same p q returns o d e t args result_args (length fs) labels shaped h.dest (zip-alike A A p q agree (locations_read (reading_of o) d args) (locations_read (reading_of o) e result_args) h.reads)
