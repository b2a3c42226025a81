-- The arguments of calls and prints are among the slots that fit.
use Rattle.std.proofs.Common.{ℕ, List, [], ◌∷◌, ◌++◌, map, Option, Some, None}
use Rattle.std.specs.List.{AllByRecursion}
use Rattle.bril_tree.specs.FunctionForm.{listed}
use Rattle.slot_code.specs.declared.item.Printed.{Printed}
use Rattle.slot_code.specs.declared.item.Slot.{Slot}
use Rattle.slot_code.specs.declared.item.Slot.TheVariants.{Variable}

module _ (P : Slot → Type 0) where
  variables_are : (xs : List ℕ) → AllByRecursion P (map Variable xs) → AllByRecursion (λ x. P (Variable x)) xs
  variables_are [] all = tt
  variables_are (x ∷ xs) all = (all.0, variables_are xs all.1)

  pub call_arguments_are : (dest : Option ℕ) (args : List ℕ) → AllByRecursion P (map Variable (listed dest ++ args)) → AllByRecursion (λ x. P (Variable x)) args
  call_arguments_are None args all = variables_are args all
  call_arguments_are (Some x) args all = variables_are args all.1

  pub printed_are : (args : List Printed) → AllByRecursion P (map (λ a. Variable a.variable) args) → AllByRecursion (λ a. P (Variable a.variable)) args
  printed_are [] all = tt
  printed_are (a ∷ args) all = (all.0, printed_are args all.1)
