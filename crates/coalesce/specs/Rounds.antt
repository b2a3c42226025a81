-- What a round makes of a tree, function by function.
use Rattle.std.specs.Prelude.{◌≡◌, ℕ, ◌<◌, Bool, true, List, Some, slice_get}
use Rattle.bril_tree.specs.declared.function_tree.FuncTree.{FuncTree}
use Rattle.bril_tree.specs.declared.numbered_function.Func.{Func}
use Rattle.bril_tree.specs.declared.program.Prog.{Prog}
use Rattle.bril_tree.specs.declared.tree.Tree.{Tree}
use Rattle.variable_renaming.specs.Made.{CopyWithin, IsRenamedByClasses, IsRenamedTree}
use Rattle.coalesce.specs.meaning.Merged.{NoneApart}
use Rattle.coalesce.specs.Classes.{AreLinkedClasses}

-- The classes of a round: copies link the variables of each, and where no reached copy is inside a class, no copy is apart.
pub record AreRoundClasses (F : Func) (class : List ℕ) : Type 0 where
  pub linked : AreLinkedClasses F class
  pub settled : ((point : ℕ) → CopyWithin F class point → ⊥) → NoneApart F

-- a function, and what a round makes of it
abbrev pub IsRoundFunction : Prog → Func → FuncTree → Type 0
IsRoundFunction P F g = IsRenamedByClasses AreRoundClasses P F g

abbrev pub IsRoundTree : Prog → Tree → Type 0
IsRoundTree P tree = IsRenamedTree AreRoundClasses P tree

-- where any two variables were joined, a reached item copies a variable to one of its class
abbrev pub HasCopyWithin : Func → List ℕ → Bool → Type 0
HasCopyWithin F class joined = joined ≡ true → (point : ℕ) × CopyWithin F class point

-- in no function of the program a reached copy is left between two different variables that are apart
abbrev pub HasNoneApart : Prog → Type 0
HasNoneApart P = (f : ℕ) (F : Func) → slice_get P.funcs f ≡ Some F → NoneApart F

-- the same, in its first functions
abbrev pub HasNoneBelow : Prog → ℕ → Type 0
HasNoneBelow P n = (f : ℕ) (F : Func) → f < n → slice_get P.funcs f ≡ Some F → NoneApart F
