-- Clashes of variables: one is assigned while the other is live.
use Rattle.std.specs.Prelude.{◌≡◌, ◌≢◌, ℕ, suc, List, Some, slice_get}
use Rattle.bril_tree.specs.declared.numbered.Instr.{Instr}
use Rattle.bril_tree.specs.Live.{IsLive}
use Rattle.bril_tree.specs.Operand.{Variable, dest_of}
use Rattle.bril_tree.specs.Walk.{IsReached}
use Rattle.variable_renaming.specs.Apart.{source_of}

-- a reached item assigns x, and isn't a copy of y, which is live just after it
pub record Clashes (code : List Instr) (item x y : ℕ) : Type 0 where
  pub reached : IsReached code item
  pub instr : Instr
  pub at : slice_get code item ≡ Some instr
  pub dest : dest_of instr ≡ Some x
  pub differ : x ≢ y
  pub other : source_of instr ≡ Some y → ⊥
  pub live : IsLive code (Variable y) (suc item)
