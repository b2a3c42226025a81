-- What stands behind the label of a side exit.
use Rattle.std.specs.Prelude.{◌≡◌, ℕ, suc, ◌+◌, ◌<◌, length, Some}
use Rattle.bril_tree.specs.declared.function_tree.Item.{Item}
use Rattle.bril_tree.specs.declared.function_tree.Item.TheVariants as item
use Rattle.bril_tree.specs.declared.operation.Op.TheVariants as op
use Rattle.bril_tree.specs.declared.program.Prog.{Prog}
use Rattle.bril_tree.specs.Numbered.{named, tree_at}
use Rattle.pass_edit_laws.specs.labels.Fresh.{labels_in}
use Rattle.pass_edit_laws.specs.plan.Lines.{jmp_line}
use Rattle.side_laws.specs.Sided.{SideExit}

-- The item is neither a branch nor a guard, and control goes on from it.
abbrev pub IsStraight : Item → Type 0
IsStraight (item.Label l) = ⊥
IsStraight (item.Const d ty v) = Unit {0}
IsStraight (item.Act d op.Br args funcs labels) = ⊥
IsStraight (item.Act d op.Guard args funcs labels) = ⊥
IsStraight (item.Act d op.Jmp args funcs labels) = ⊥
IsStraight (item.Act d op.Ret args funcs labels) = ⊥
IsStraight (item.Act d op.Call args funcs labels) = ⊥
IsStraight (item.Act d _ args funcs labels) = Unit {0}

-- Behind the label stand straight items, as many as are kept, and then a `jmp` to the other label of the branch.
pub record HasStraightExit (P Q : Prog) (f : ℕ) (w : SideExit) : Type 0 where
  pub label : ℕ
  pub named_so : tree_at Q f label ≡ Some (item.Label w.name)
  pub straight : (n : ℕ) → n < length w.pair.kept → (a : Item) → tree_at Q f (suc label + n) ≡ Some a → IsStraight a
  pub leaves : tree_at Q f (suc label + length w.pair.kept) ≡ Some (jmp_line (named (labels_in P f) w.pair.other))
