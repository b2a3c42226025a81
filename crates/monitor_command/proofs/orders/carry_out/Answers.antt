-- The monitor follows the orders.
use Rattle.std.proofs.Common.{◌+◌, drop, subst}
use Rattle.std.proofs.lemmas.Result.{err_from_is_err_and}
use Rattle.monitor_command.proofs.Carrying.{came_first, came_last, came_more, came_off, came_over, none_left, order_here}
use Rattle.monitor_command.specs.Carried.{Became, CameTo}
use Rattle.monitor_command.proofs.orders.carry_out.Goals as goal

pub loop-order-init : goal.loop-order-init
loop-order-init g c = λ is. came_first c.args.on is c.args.orders.now c.args.progress.now (g.O.Sink.seen c.args.out.now) c.requires.first

pub carry_order-requires-clause-follows : goal.carry_order-requires-clause-follows
carry_order-requires-clause-follows g c =
    let came = c.loop-order.invariant c.requires.shown in
    record { session = came.session; follows = came.follows }

pub loop-order-preserved : goal.loop-order-preserved
loop-order-preserved g c = λ is.
    (let orders = c.args.orders.now in
    let k = c.loop-order.order-index in
    let next = c.order-item.result in
    let s = g.O.Sink.seen c.args.out.now in
    let mid = g.O.Sink.seen c.loop-order.out in
    let came = subst (λ rest. CameTo c.args.on is orders rest c.loop-order.progress s mid) (order_here orders k next c.loop-order-test.true c.order-item.is) (c.loop-order.invariant is) in
    let went = subst (λ w. Became c.args.on is next came.session w c.carry_order.new.progress mid (g.O.Sink.seen c.carry_order.new.out)) c.in-On.is (c.in_ok-carry_order.ensures.ok is came.session came.follows) in
    came_more c.args.on is orders next (drop (k + 1) orders) c.loop-order.progress s mid (g.O.Sink.seen c.carry_order.new.out) came c.carry_order.new.progress went)

pub returns-in-Over-clause-ok : goal.returns-in-Over-clause-ok
returns-in-Over-clause-ok g c = λ is.
    (let orders = c.args.orders.now in
    let k = c.loop-order.order-index in
    let next = c.order-item.result in
    let s = g.O.Sink.seen c.args.out.now in
    let mid = g.O.Sink.seen c.loop-order.out in
    let came = subst (λ rest. CameTo c.args.on is orders rest c.loop-order.progress s mid) (order_here orders k next c.loop-order-test.true c.order-item.is) (c.loop-order.invariant is) in
    let went = subst (λ w. Became c.args.on is next came.session w c.carry_order.new.progress mid (g.O.Sink.seen c.carry_order.new.out)) c.in-Over.is (c.in_ok-carry_order.ensures.ok is came.session came.follows) in
    came_over c.args.on is orders next (drop (k + 1) orders) c.loop-order.progress s mid (g.O.Sink.seen c.carry_order.new.out) came c.in-Over.ended went)

pub returns-in_err-carry_order-clause-err : goal.returns-in_err-carry_order-clause-err
returns-in_err-carry_order-clause-err g c =
    let e = err_from_is_err_and c.from_residual.result c.from_residual.ensures.1 in
    let orders = c.args.orders.now in
    let k = c.loop-order.order-index in
    let next = c.order-item.result in
    let s = g.O.Sink.seen c.args.out.now in
    let mid = g.O.Sink.seen c.loop-order.out in
    rw e.1 (λ is.
    (let came = subst (λ rest. CameTo c.args.on is orders rest c.loop-order.progress s mid) (order_here orders k next c.loop-order-test.true c.order-item.is) (c.loop-order.invariant is) in
    came_off c.args.on is orders next (drop (k + 1) orders) c.loop-order.progress s mid (g.O.Sink.seen c.carry_order.new.out) came (c.in_err-carry_order.ensures.err is came.session (drop (k + 1) orders) came.follows)))

pub returns-clause-ok : goal.returns-clause-ok
returns-clause-ok g c = λ is.
    (let orders = c.args.orders.now in
    let s = g.O.Sink.seen c.args.out.now in
    let came = subst (λ rest. CameTo c.args.on is orders rest c.loop-order.progress s (g.O.Sink.seen c.loop-order.out)) (none_left orders c.loop-order.order-index c.loop-order-test.false) (c.loop-order.invariant is) in
    came_last c.args.on is orders c.loop-order.progress s (g.O.Sink.seen c.loop-order.out) came)
