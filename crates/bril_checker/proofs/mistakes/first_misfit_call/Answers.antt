use Rattle.std.proofs.Common.{sym, ◌∙◌}
use Rattle.bril_tree.specs.Typing.{is_call_shaped}
use Rattle.bril_tree.proofs.First.{first_failing, none_failing, one_more}
use Rattle.bril_checker.proofs.mistakes.first_misfit_call.Goals as goal

pub returns-then-not-is_call_shaped : goal.returns-then-not-is_call_shaped
returns-then-not-is_call_shaped c =
    first_failing (is_call_shaped c.args.prog.now c.args.func.now) c.args.items.now c.loop-number.number c.index-items-number.result c.loop-number-test.true c.index-items-number.is c.loop-number.invariant
    (sym c.is_call_shaped.ensures ∙ c.if-not-is_call_shaped.true)

pub loop-number-preserved : goal.loop-number-preserved
loop-number-preserved c =
    one_more (is_call_shaped c.args.prog.now c.args.func.now) c.args.items.now c.loop-number.number c.index-items-number.result c.loop-number-test.true c.index-items-number.is c.loop-number.invariant
    (sym c.is_call_shaped.ensures ∙ c.if-not-is_call_shaped.false)

pub returns : goal.returns
returns c =
    none_failing (is_call_shaped c.args.prog.now c.args.func.now) c.args.items.now c.loop-number.number c.loop-number-test.false c.loop-number.invariant
