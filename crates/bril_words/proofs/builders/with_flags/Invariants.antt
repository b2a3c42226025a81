-- What the command is so far.
use Rattle.std.proofs.Common.{map, take}
use Rattle.clap.specs.Simple.{App}
use Rattle.bril_words.specs.App.{HasApp, flag_rule, with_rules}
use Rattle.bril_words.proofs.builders.with_flags.Given as goal

abbrev pub invariant-loop-flag : goal.invariant-loop-flag
invariant-loop-flag l = (a : App) → HasApp a l.initial.command → HasApp (with_rules a (map flag_rule (take l.flag-index l.flags))) l.command
