use Rattle.std.proofs.Common.{◌≡◌, ◌≤◌, length, Option}
use Rattle.bril_tree.specs.declared.function_tree.Dest.{Dest}
use Rattle.bril_tree.specs.declared.operation.Op.{Op}
use Rattle.bril_grammar.specs.Machine.{run, act}
use Rattle.bril_grammar.specs.State.{Begun, AtOperand}
use Rattle.bril_grammar.specs.Terminal.{terminals_of}
use Rattle.bril_text.specs.Parse.{with_operands}
use Rattle.bril_text.proofs.operands.operands_at.Given as goal

abbrev pub invariant-operands : goal.invariant-operands
invariant-operands l = record {
  same : (begun : Begun) (dest : Option Dest) (operation : Op) → run (AtOperand (act begun dest operation)) (terminals_of l.fn.terminals) ≡ run (AtOperand (with_operands begun dest operation l.operands)) (terminals_of l.terminals);
  shorter : length l.terminals ≤ length l.fn.terminals;
}

abbrev pub decreases-operands : goal.decreases-operands
decreases-operands l = length l.terminals
