-- Each argument joins the others.
use Rattle.std.proofs.Common.{◌<◌, length, take, map, arith, subst, List}
use Rattle.clap.specs.Walk.{Rule}
use Rattle.bril_words.specs.App.{HasApp, option_rule, with_rules}
use Rattle.bril_words.proofs.Building.{adds_rule, rules_more, taken_all}
use Rattle.bril_words.specs.declared.options.Setting.{Setting as Kind}
use Rattle.bril_words.proofs.builders.with_options.Goals as goal

pub loop-option-preserved : goal.loop-option-preserved
loop-option-preserved c = λ a has.
    let lt : c.loop-option.option-index < length c.args.options.now = omega arith in
    subst (λ (rules : List Rule). HasApp (with_rules a rules) c.in_ok-command.command) (rules_more option_rule c.args.options.now c.loop-option.option-index _ lt)
    (adds_rule a (map option_rule (take c.loop-option.option-index c.args.options.now)) _ c.loop-option.command c.in_ok-command.command c.option_arg.result (c.loop-option.invariant a has)
    c.in_ok-command.ensures c.option_arg.ensures.local c.option_arg.ensures.rule)

pub returns : goal.returns
returns c = λ a has.
    subst (λ (xs : List Kind). HasApp (with_rules a (map option_rule xs)) c.loop-option.command) (taken_all c.args.options.now c.loop-option.option-index c.loop-option-test.false)
    (c.loop-option.invariant a has)
