use Rattle.std.proofs.Common.{◌<◌, sym, arith}
use Rattle.side_pairs.specs.Walks.{walker_of}
use Rattle.side_pairs.proofs.Stepping.{pairs-stand, step-passes}
use Rattle.side_pairs.proofs.step.next_step.Goals as goal

pub returns-then-is_nop_at-clause-goes : goal.returns-then-is_nop_at-clause-goes
returns-then-is_nop_at-clause-goes c = λ bail kept pairs h.
    let f = c.further.ensures in
    step-passes c.args.code.now bail c.args.spot c.further.result kept pairs c.requires.some (sym c.if-is_nop_at.ensures) (record { item = f.item; room = f.room; left_is = f.left; point_is = f.point }) h

pub returns-clause-goes : goal.returns-clause-goes
returns-clause-goes c = λ bail kept pairs h.
    let some : 0 < c.settled-walker.result.left = omega (arith, c.if-walker-eq0.false) in
    pairs-stand c.args.code.now bail c.args.spot.room c.args.spot.item (walker_of c.args.spot.walker) kept pairs (walker_of c.settled-walker.result) c.requires.some (sym c.if-is_nop_at.ensures) c.settled-walker.ensures some
    (c.standing_step.ensures.goes bail kept pairs h)
