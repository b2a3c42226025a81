use Rattle.std.proofs.Common.{◌≡◌, ℕ, ◌≤◌, List, [], length, None}
use Rattle.bril_tree.specs.declared.function_tree.FuncTree.{FuncTree}
use Rattle.bril_tree.specs.declared.import.Import.{Import}
use Rattle.bril_grammar.specs.Machine.{run, begin}
use Rattle.bril_grammar.specs.State.{AtArg}
use Rattle.bril_grammar.specs.Terminal.{terminals_of}
use Rattle.bril_text.specs.Parse.{begun_with}
use Rattle.bril_text.proofs.functions.arguments.Given as goal

abbrev pub invariant-arguments : goal.invariant-arguments
invariant-arguments l = record {
  same : (imports : List Import) (funcs : List FuncTree) (name : List ℕ) →
      run (AtArg (begin imports funcs name)) (terminals_of l.fn.terminals) ≡ run (AtArg (begun_with imports funcs name l.args None [])) (terminals_of l.terminals);
  shorter : length l.terminals ≤ length l.fn.terminals;
}

abbrev pub decreases-arguments : goal.decreases-arguments
decreases-arguments l = length l.terminals
