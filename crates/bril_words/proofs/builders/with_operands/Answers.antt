-- Each argument joins the others.
use Rattle.std.proofs.Common.{◌<◌, length, take, map, arith, subst, List}
use Rattle.clap.specs.Walk.{Rule}
use Rattle.bril_words.specs.App.{HasApp, operand_rule, with_rules}
use Rattle.bril_words.proofs.Building.{adds_rule, rules_more, taken_all}
use Rattle.bril_words.specs.declared.options.Operand.{Operand as Kind}
use Rattle.bril_words.proofs.builders.with_operands.Goals as goal

pub loop-operand-preserved : goal.loop-operand-preserved
loop-operand-preserved c = λ a has.
    let lt : c.loop-operand.operand-index < length c.args.operands.now = omega arith in
    subst (λ (rules : List Rule). HasApp (with_rules a rules) c.in_ok-command.command) (rules_more operand_rule c.args.operands.now c.loop-operand.operand-index _ lt)
    (adds_rule a (map operand_rule (take c.loop-operand.operand-index c.args.operands.now)) _ c.loop-operand.command c.in_ok-command.command c.operand_arg.result (c.loop-operand.invariant a has)
    c.in_ok-command.ensures c.operand_arg.ensures.local c.operand_arg.ensures.rule)

pub returns : goal.returns
returns c = λ a has.
    subst (λ (xs : List Kind). HasApp (with_rules a (map operand_rule xs)) c.loop-operand.command) (taken_all c.args.operands.now c.loop-operand.operand-index c.loop-operand-test.false)
    (c.loop-operand.invariant a has)
