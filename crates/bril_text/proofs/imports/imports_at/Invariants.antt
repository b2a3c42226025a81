use Rattle.std.proofs.Common.{◌≡◌, [], length}
use Rattle.bril_grammar.specs.Machine.{run}
use Rattle.bril_grammar.specs.State.{AtImport}
use Rattle.bril_grammar.specs.Terminal.{terminals_of}
use Rattle.bril_text.proofs.imports.imports_at.Given as goal

abbrev pub invariant-imports : goal.invariant-imports
invariant-imports l = run (AtImport []) (terminals_of l.fn.terminals) ≡ run (AtImport l.imports) (terminals_of l.terminals)

abbrev pub decreases-imports : goal.decreases-imports
decreases-imports l = length l.terminals
