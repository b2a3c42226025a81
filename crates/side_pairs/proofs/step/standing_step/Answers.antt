use Rattle.std.proofs.Common.{◌+◌, ◌-◌, refl}
use Rattle.side_pairs.proofs.Stepping.{stands-ends, stands-inverts, stands-pairs}
use Rattle.side_pairs.proofs.step.standing_step.Goals as goal

pub returns-in-Inverts-clause-goes : goal.returns-in-Inverts-clause-goes
returns-in-Inverts-clause-goes c = λ bail kept pairs h.
    let m = c.in-Inverts.ensures in
    let f = c.further-next.ensures in
    stands-inverts c.args.code.now bail c.args.spot c.further-next.result (c.args.walker.left - 1) c.args.walker.point kept pairs m.0 c.in-Inverts.on c.in-Inverts.off c.label_point.result (c.args.spot.item + 1) m.1 c.requires.closes c.requires.some
    (record { item = f.item; room = f.room; left_is = f.left; point_is = f.point }) c.label_point.ensures refl h

pub returns-in-Pairs-clause-goes : goal.returns-in-Pairs-clause-goes
returns-in-Pairs-clause-goes c = λ bail kept pairs h.
    let m = c.in-Pairs.ensures in
    let f = c.further-next-in-Pairs.ensures in
    stands-pairs c.args.code.now bail c.args.spot c.further-next-in-Pairs.result (c.args.walker.left - 1) c.args.walker.point kept pairs m.1.0 c.in-Pairs.on c.in-Pairs.off c.label_point-in-Pairs.result m.0 m.1.1
    (record { item = f.item; room = f.room; left_is = f.left; point_is = f.point }) c.label_point-in-Pairs.ensures h

pub returns-in-Ends-clause-goes : goal.returns-in-Ends-clause-goes
returns-in-Ends-clause-goes c = λ bail kept pairs h.
    let m = c.in-Ends.ensures in
    stands-ends c.args.code.now bail c.args.spot (c.args.walker.left - 1) c.args.walker.point kept pairs m.0 m.1 m.2 h
