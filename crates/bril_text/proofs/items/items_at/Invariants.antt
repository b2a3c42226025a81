use Rattle.std.proofs.Common.{◌≡◌, ℕ, ◌≤◌, List, [], length, Option}
use Rattle.bril_tree.specs.declared.function_tree.Dest.{Dest}
use Rattle.bril_tree.specs.declared.function_tree.FuncTree.{FuncTree}
use Rattle.bril_tree.specs.declared.import.Import.{Import}
use Rattle.bril_tree.specs.declared.types.Ty.{Ty}
use Rattle.bril_grammar.specs.Machine.{run}
use Rattle.bril_grammar.specs.State.{AtItem}
use Rattle.bril_grammar.specs.Terminal.{terminals_of}
use Rattle.bril_text.specs.Parse.{begun_with}
use Rattle.bril_text.proofs.items.items_at.Given as goal

abbrev pub invariant-items : goal.invariant-items
invariant-items l = record {
  same : (imports : List Import) (funcs : List FuncTree) (name : List ℕ) (args : List Dest) (ret : Option Ty) →
      run (AtItem (begun_with imports funcs name args ret [])) (terminals_of l.fn.terminals) ≡ run (AtItem (begun_with imports funcs name args ret l.code)) (terminals_of l.terminals);
  shorter : length l.terminals ≤ length l.fn.terminals;
}

abbrev pub decreases-items : goal.decreases-items
decreases-items l = length l.terminals
