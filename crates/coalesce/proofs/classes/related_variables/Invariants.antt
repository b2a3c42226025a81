use Rattle.std.proofs.Common.{◌≡◌, ℕ, ◌<◌, length, Some}
use Rattle.std.specs.Prelude.{slice_get}
use Rattle.bril_tree.specs.declared.numbered.Instr.{Instr}
use Rattle.coalesce.specs.Classes.{IsRelatedItem}
use Rattle.coalesce.proofs.classes.related_variables.Given as goal

abbrev pub invariant-loop-item : goal.invariant-loop-item
invariant-loop-item l = record {
  long : length l.related.items ≡ length l.func.vars;
  relates : (point : ℕ) (item : Instr) → point < l.item-index → slice_get l.func.code point ≡ Some item → IsRelatedItem l.func l.related.items item;
}
