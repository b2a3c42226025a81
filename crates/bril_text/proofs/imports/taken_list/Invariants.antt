use Rattle.std.proofs.Common.{◌≡◌, ◌≤◌, List, [], length}
use Rattle.bril_tree.specs.declared.import.Import.{Import}
use Rattle.bril_grammar.specs.Machine.{run}
use Rattle.bril_grammar.specs.State.{AtTaken}
use Rattle.bril_tree.specs.Path.{ImportPath}
use Rattle.bril_grammar.specs.Terminal.{terminals_of}
use Rattle.bril_text.specs.Parse.{begin_import}
use Rattle.bril_text.proofs.imports.taken_list.Given as goal

abbrev pub invariant-taken : goal.invariant-taken
invariant-taken l = record {
  same : (imports : List Import) (path : ImportPath) →
      run (AtTaken (begin_import imports path [])) (terminals_of l.fn.terminals) ≡ run (AtTaken (begin_import imports path l.names)) (terminals_of l.terminals);
  shorter : length l.terminals ≤ length l.fn.terminals;
}

abbrev pub decreases-taken : goal.decreases-taken
decreases-taken l = length l.terminals
