-- Variables that copies link: those that the pass may give one name.
use Rattle.std.specs.Prelude.{◌≡◌, ◌⊎◌, ℕ, Some, slice_get}
use Rattle.bril_tree.specs.declared.numbered.Instr.{Instr}
use Rattle.bril_tree.specs.declared.numbered_function.Func.{Func}
use Rattle.bril_tree.specs.Walk.{IsReached}
use Rattle.variable_renaming.specs.Apart.{Copies}

-- a walk leads to an item that copies one of the variables to the other
pub record HasReachedCopy (F : Func) (x y : ℕ) : Type 0 where
  pub point : ℕ
  pub reached : IsReached F.code point
  pub item : Instr
  pub at : slice_get F.code point ≡ Some item
  pub copies : Copies item x y ⊎ Copies item y x

-- Copies link two variables: they are the same, or a walk leads to a copy of one to the other, or both are linked with a third.
pub data AreLinked (F : Func) : ℕ → ℕ → Type 0 where
  Same : (x : ℕ) → AreLinked F x x
  Copied : (x y : ℕ) → HasReachedCopy F x y → AreLinked F x y
  Both : (x y third : ℕ) → AreLinked F x third → AreLinked F y third → AreLinked F x y
