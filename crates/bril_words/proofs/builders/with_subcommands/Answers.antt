-- Each command joins the others.
use Rattle.std.proofs.Common.{◌<◌, length, take, arith, subst, sym, List}
use Rattle.std.proofs.lemmas.List.{take_more}
use Rattle.bril_words.specs.App.{HasApp, with_subcommands}
use Rattle.bril_words.specs.declared.subcommands.Subcommand.{Subcommand}
use Rattle.bril_words.proofs.Building.{adds_subcommand, taken_all}
use Rattle.bril_words.proofs.builders.with_subcommands.Goals as goal

pub loop-subcommand-preserved : goal.loop-subcommand-preserved
loop-subcommand-preserved c = λ a has.
    let lt : c.loop-subcommand.subcommand-index < length c.args.subcommands.now = omega arith in
    subst (λ (cs : List Subcommand). HasApp (with_subcommands a cs) c.in_ok-command.command) (sym (take_more c.args.subcommands.now c.loop-subcommand.subcommand-index _ lt))
    (adds_subcommand a (take c.loop-subcommand.subcommand-index c.args.subcommands.now) _ c.loop-subcommand.command c.in_ok-command.command c.in_ok-command_of.field-0 (c.loop-subcommand.invariant a has)
    c.in_ok-command_of.ensures c.in_ok-command.ensures)

pub returns : goal.returns
returns c = λ a has.
    subst (λ (cs : List Subcommand). HasApp (with_subcommands a cs) c.loop-subcommand.command) (taken_all c.args.subcommands.now c.loop-subcommand.subcommand-index c.loop-subcommand-test.false)
    (c.loop-subcommand.invariant a has)
