use Rattle.std.proofs.Common.{◌≡◌, ◌≤◌, length}
use Rattle.bril_grammar.specs.Machine.{run}
use Rattle.bril_grammar.specs.State.{TypePosition, AtType}
use Rattle.bril_grammar.specs.Terminal.{terminals_of}
use Rattle.bril_text.proofs.types.opened.Given as goal

abbrev pub invariant-pointers : goal.invariant-pointers
invariant-pointers l = record {
  same : (position : TypePosition) → run (AtType position 0) (terminals_of l.fn.terminals) ≡ run (AtType position l.depth) (terminals_of l.terminals);
  nests : l.depth ≤ 32;
  shorter : length l.terminals ≤ length l.fn.terminals;
}

abbrev pub decreases-pointers : goal.decreases-pointers
decreases-pointers l = length l.terminals
