-- The orders were carried out, or a write failed.
use Rattle.std.proofs.Common.{refl, inl}
use Rattle.std.proofs.lemmas.Result.{err_from_is_err_and}
use Rattle.bril_commands.proofs.Works.{Shows-flushed, Shows-unflushed, Works-ended}
use Rattle.monitor_command.specs.Carried.{scripted}
use Rattle.monitor_command.proofs.command.run_orders.Goals as goal

pub returns-in_err-ended : goal.returns-in_err-ended
returns-in_err-ended g c =
    let e = err_from_is_err_and c.from_residual-in_err-ended.result c.from_residual-in_err-ended.ensures.1 in
    rw (e.1, e.2) (λ is. (refl, inl (c.in_err-ended.ensures.err is)))

pub returns-in_err-hand_on : goal.returns-in_err-hand_on
returns-in_err-hand_on g c =
    let e = err_from_is_err_and c.from_residual-in_err-hand_on.result c.from_residual-in_err-hand_on.ensures.1 in
    rw (e.1, e.2) (λ is. (refl, inl (Shows-unflushed (scripted c.args.on is c.args.orders.now) (c.in_ok-ended.ensures.ok is) c.in_err-hand_on.ensures.kept c.in_err-hand_on.ensures.err)))

pub returns : goal.returns
returns g c =
    rw c.answer.ensures (λ is.
    (let o = scripted c.args.on is c.args.orders.now in
    Works-ended o c.in_ok-ended.ended _ _ _ (Shows-flushed o (c.in_ok-ended.ensures.ok is) c.in_ok-hand_on.ensures.kept c.in_ok-hand_on.ensures.ok)))
