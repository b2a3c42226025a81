-- What `show` puts comes before what is put after it.
use Rattle.std.proofs.Common.{sym, subst}
use Rattle.std.proofs.lemmas.Result.{err_from_is_err_and}
use Rattle.monitor_command.proofs.Carrying.{show_breaks_off, show_goes_on}
use Rattle.monitor_command.specs.Carried.{BreaksOff, GoesOn}
use Rattle.monitor_command.proofs.orders.carry_order.Goals as goal

pub returns-in_ok-show-in-Show-clause-ok : goal.returns-in_ok-show-in-Show-clause-ok
returns-in_ok-show-in-Show-clause-ok g c = λ is s follows.
    subst (λ o. GoesOn c.args.on is o s c.args.progress.now (g.O.Sink.seen c.args.out.now) (g.O.Sink.seen c.show.new.out)) (sym c.in-Show.is)
    (show_goes_on c.args.on is s c.args.progress.now _ _ follows (c.in_ok-show-in-Show.ensures.ok s.lines follows.lines))

pub returns-in_err-show-in-Show-clause-err : goal.returns-in_err-show-in-Show-clause-err
returns-in_err-show-in-Show-clause-err g c =
    let e = err_from_is_err_and c.from_residual-in_err-show-in-Show.result c.from_residual-in_err-show-in-Show.ensures.1 in
    rw e.1 (λ is s rest follows.
    subst (λ o. BreaksOff c.args.on is o s rest (g.O.Sink.seen c.args.out.now) (g.O.Sink.seen c.show.new.out)) (sym c.in-Show.is)
    (show_breaks_off c.args.on is s _ _ (c.in_err-show-in-Show.ensures.err s.lines follows.lines) rest))
