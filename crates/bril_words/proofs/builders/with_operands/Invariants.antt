-- What the command is so far.
use Rattle.std.proofs.Common.{map, take}
use Rattle.clap.specs.Simple.{App}
use Rattle.bril_words.specs.App.{HasApp, operand_rule, with_rules}
use Rattle.bril_words.proofs.builders.with_operands.Given as goal

abbrev pub invariant-loop-operand : goal.invariant-loop-operand
invariant-loop-operand l = (a : App) → HasApp a l.initial.command → HasApp (with_rules a (map operand_rule (take l.operand-index l.operands))) l.command
