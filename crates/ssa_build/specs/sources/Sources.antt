-- What stands for the definitions of a function once its trivial `get`s are left out.
use Rattle.std.specs.Prelude.{◌≡◌, ℕ, ◌<◌, List, Option, Some}
use Rattle.bril_tree.specs.declared.numbered.Instr.{Instr}
use Rattle.bril_tree.specs.Operand.{Location}
use Rattle.ssa_build.specs.operands.Operands.{HasTwoSources, base_of}
use Rattle.ssa_laws.specs.reaching_definitions.Told.{IsSolved, table_of}

-- `find` has what stands for each of so many definitions.
pub record AreRepresentatives (code : List Instr) (args : ℕ) (gets : ℕ → Location → Option ℕ) (count : ℕ) (find : ℕ → ℕ) : Type 0 where
  pub solved : IsSolved code (table_of code args gets) args (base_of code args) find
  pub within : (d : ℕ) → d < count → find d < count
  pub own : (d : ℕ) → d < count → find (find d) ≡ find d
  -- a `get` that stays is set from two definitions for which others stand that differ, and neither is the `get`
  pub needed : (k y : ℕ) (a : Location) → gets k a ≡ Some y → find y ≡ y → HasTwoSources code args gets find k y a
