-- All commands.
use Rattle.std.proofs.Common.{subst, List}
use Rattle.std.proofs.lemmas.Result.{IfOk-weaker}
use Rattle.bril_words.specs.App.{HasApp, bare_app, whole_app, with_subcommands}
use Rattle.bril_words.specs.declared.subcommands.Subcommand.{Subcommand}
use Rattle.bril_words.proofs.builders.whole_command.Goals as goal

pub returns : goal.returns
unfolding whole_app
returns c =
    IfOk-weaker c.with_subcommands.result _ _
    (λ made h. subst (λ (cs : List Subcommand). HasApp (with_subcommands bare_app cs) made) c.as_slice.ensures (h bare_app c.in_ok-bare_command.ensures)) c.with_subcommands.ensures
