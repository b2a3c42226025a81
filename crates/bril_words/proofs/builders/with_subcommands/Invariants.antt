-- What the command is so far.
use Rattle.std.proofs.Common.{take}
use Rattle.clap.specs.Simple.{App}
use Rattle.bril_words.specs.App.{HasApp, with_subcommands}
use Rattle.bril_words.proofs.builders.with_subcommands.Given as goal

abbrev pub invariant-loop-subcommand : goal.invariant-loop-subcommand
invariant-loop-subcommand l = (a : App) → HasApp a l.initial.command → HasApp (with_subcommands a (take l.subcommand-index l.subcommands)) l.command
