use Rattle.std.proofs.Common.{◌≡◌, List, [], length}
use Rattle.bril_tree.specs.declared.import.Import.{Import}
use Rattle.bril_grammar.specs.Machine.{run}
use Rattle.bril_grammar.specs.State.{AtFunction}
use Rattle.bril_grammar.specs.Terminal.{terminals_of}
use Rattle.bril_text.proofs.functions.functions_at.Given as goal

abbrev pub invariant-functions : goal.invariant-functions
invariant-functions l = (imports : List Import) → run (AtFunction imports []) (terminals_of l.fn.terminals) ≡ run (AtFunction imports l.funcs) (terminals_of l.terminals)

abbrev pub decreases-functions : goal.decreases-functions
decreases-functions l = length l.terminals
