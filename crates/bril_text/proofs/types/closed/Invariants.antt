use Rattle.std.proofs.Common.{◌≡◌, ◌-◌, ◌≤◌, length}
use Rattle.bril_grammar.specs.Machine.{run, closing}
use Rattle.bril_grammar.specs.State.{State}
use Rattle.bril_grammar.specs.Terminal.{terminals_of}
use Rattle.bril_text.proofs.types.closed.Given as goal

abbrev pub invariant-loop : goal.invariant-loop
invariant-loop l = record {
  same : (next : State) → run (closing l.depth next) (terminals_of l.fn.terminals) ≡ run (closing (l.depth - l.counter) next) (terminals_of l.terminals);
  shorter : length l.terminals ≤ length l.fn.terminals;
}
