use Rattle.std.proofs.Common.{sym}
use Rattle.bril_checker.specs.Faults.{IsTyped}
use Rattle.bril_checker.proofs.Positions.{All-next, All-whole}
use Rattle.bril_checker.proofs.mistakes.first_mistyped.Goals as goal

pub loop-number-preserved : goal.loop-number-preserved
loop-number-preserved c =
    All-next (IsTyped c.args.prog.now c.args.func.now) c.args.func.now.code c.as_slice-item-items.result.now c.as_slice-item-items.ensures
    c.loop-number.number c.item-item.result c.loop-number-test.true c.item-item.is c.loop-number.invariant (sym c.in_default.ensures)

pub returns : goal.returns
returns c =
    All-whole (IsTyped c.args.prog.now c.args.func.now) c.args.func.now.code c.as_slice-item-items.result.now c.as_slice-item-items.ensures
    c.loop-number.number c.loop-number-test.false c.loop-number.invariant
