-- Faults of names that a linked tree never has.
use Rattle.std.specs.Prelude.{ℕ, List, Option}
use Rattle.bril_names.specs.Faults.{HasFault}
use Rattle.bril_names.specs.declared.fault.NameFault.TheVariants.{NoFunction, TwiceFunction}
use Rattle.bril_outside.specs.Files.{FileMap}
use Rattle.bril_tree.specs.declared.tree.Tree.{Tree}
use Rattle.import_linker.specs.Linked.{Linked}

-- no function of a linked tree has the name of an earlier one
abbrev pub LinkedFunctionsDiffer : Type 0
LinkedFunctionsDiffer = (holds : Option FileMap) (root : List ℕ) (tree : Tree) → Linked holds root tree → (place : ℕ) → HasFault tree (TwiceFunction place) → ⊥

-- no item of a linked tree names a function that isn't there
abbrev pub LinkedFunctionsAreThere : Type 0
LinkedFunctionsAreThere = (holds : Option FileMap) (root : List ℕ) (tree : Tree) → Linked holds root tree → (func item : ℕ) → HasFault tree (NoFunction func item) → ⊥
