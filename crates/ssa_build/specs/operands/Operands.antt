-- The operands of the `get`s of a function: what each is set from, over all edges that enter its label.
use Rattle.std.specs.Prelude.{◌≡◌, ◌≢◌, ◌↔◌, ℕ, ◌+◌, ◌<◌, List, length, Option, Some}
use Rattle.bril_tree.specs.declared.numbered.Instr.{Instr}
use Rattle.bril_tree.specs.Operand.{Location}
use Rattle.bril_tree.specs.Sites.{AreSitesSound}
use Rattle.ssa_build.specs.trivial_phis.Trivial.{IsResolved, OperandsView, Sets}
use Rattle.ssa_laws.specs.reaching_definitions.Laws.{IsTabled}
use Rattle.ssa_laws.specs.reaching_definitions.Told.{IsSolved, Source, table_of}

-- so many definitions are arguments and items; `get` number t is the definition after these by t
abbrev pub base_of : List Instr → ℕ → ℕ
base_of code args = args + length code

-- The operands are those of the function's `get`s, each over some edge, and all.
pub record AreOperands (code : List Instr) (args : ℕ) (gets : ℕ → Location → Option ℕ) (v : OperandsView) : Type 0 where
  pub numbered : (k y : ℕ) (a : Location) → gets k a ≡ Some y → (t : ℕ) × (t < v.gets) × (y ≡ base_of code args + t)
  pub sources : (k t z : ℕ) (a : Location) → gets k a ≡ Some (base_of code args + t) → Source code (table_of code args gets) args k a z ↔ Sets v t z

-- two operands of a `get`, for which different definitions stand that are not the `get`
pub record HasTwoSources (code : List Instr) (args : ℕ) (gets : ℕ → Location → Option ℕ) (find : ℕ → ℕ) (k y : ℕ) (a : Location) : Type 0 where
  pub first : ℕ
  pub second : ℕ
  pub is_first : Source code (table_of code args gets) args k a first
  pub is_second : Source code (table_of code args gets) args k a second
  pub differ : find first ≢ find second
  pub other_first : find first ≢ y
  pub other_second : find second ≢ y

-- Where no trivial `get` is left among the operands of a function, its tables are solved.
abbrev pub ResolvedAreSolved : Type 0
ResolvedAreSolved = (code : List Instr) (args : ℕ) (gets : ℕ → Location → Option ℕ) (v : OperandsView) (find : ℕ → ℕ)
    → AreOperands code args gets v → IsResolved v (base_of code args) find → IsSolved code (table_of code args gets) args (base_of code args) find

-- Each `get` that stays then has two operands that differ, and neither is the `get` itself.
abbrev pub LeftAreNeeded : Type 0
LeftAreNeeded = (code : List Instr) (args : ℕ) (gets : ℕ → Location → Option ℕ) (v : OperandsView) (find : ℕ → ℕ)
    → AreSitesSound code → IsTabled code args gets → AreOperands code args gets v → IsResolved v (base_of code args) find
    → (k y : ℕ) (a : Location) → gets k a ≡ Some y → find y ≡ y → HasTwoSources code args gets find k y a
