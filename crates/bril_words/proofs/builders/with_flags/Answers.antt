-- Each argument joins the others.
use Rattle.std.proofs.Common.{◌<◌, length, take, map, arith, subst, List}
use Rattle.clap.specs.Walk.{Rule}
use Rattle.bril_words.specs.App.{HasApp, flag_rule, with_rules}
use Rattle.bril_words.proofs.Building.{adds_rule, rules_more, taken_all}
use Rattle.bril_words.specs.declared.options.Flag.{Flag as Kind}
use Rattle.bril_words.proofs.builders.with_flags.Goals as goal

pub loop-flag-preserved : goal.loop-flag-preserved
loop-flag-preserved c = λ a has.
    let lt : c.loop-flag.flag-index < length c.args.flags.now = omega arith in
    subst (λ (rules : List Rule). HasApp (with_rules a rules) c.in_ok-command.command) (rules_more flag_rule c.args.flags.now c.loop-flag.flag-index _ lt)
    (adds_rule a (map flag_rule (take c.loop-flag.flag-index c.args.flags.now)) _ c.loop-flag.command c.in_ok-command.command c.flag_arg.result (c.loop-flag.invariant a has)
    c.in_ok-command.ensures c.flag_arg.ensures.local c.flag_arg.ensures.rule)

pub returns : goal.returns
returns c = λ a has.
    subst (λ (xs : List Kind). HasApp (with_rules a (map flag_rule xs)) c.loop-flag.command) (taken_all c.args.flags.now c.loop-flag.flag-index c.loop-flag-test.false)
    (c.loop-flag.invariant a has)
