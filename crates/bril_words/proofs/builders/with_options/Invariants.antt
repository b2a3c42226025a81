-- What the command is so far.
use Rattle.std.proofs.Common.{map, take}
use Rattle.clap.specs.Simple.{App}
use Rattle.bril_words.specs.App.{HasApp, option_rule, with_rules}
use Rattle.bril_words.proofs.builders.with_options.Given as goal

abbrev pub invariant-loop-option : goal.invariant-loop-option
invariant-loop-option l = (a : App) → HasApp a l.initial.command → HasApp (with_rules a (map option_rule (take l.option-index l.options))) l.command
