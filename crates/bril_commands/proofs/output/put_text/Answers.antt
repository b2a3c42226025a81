-- One piece was put and handed on, or one of the two failed.
use Rattle.std.proofs.Common.{inl, inr}
use Rattle.std.proofs.lemmas.Result.{err_from_is_err_and}
use Rattle.bril_outside.proofs.SinkWrites.{PutSome-one}
use Rattle.bril_report.proofs.Puts.{PutsAll-one}
use Rattle.bril_commands.proofs.output.put_text.Goals as goal

pub returns-in_err-put : goal.returns-in_err-put
returns-in_err-put g c =
    let e = err_from_is_err_and c.from_residual.result c.from_residual.ensures.1 in
    rw (e.1, e.2) (inl (PutSome-one c.in_err-put.ensures.err.0 c.in_err-put.ensures.times c.in_err-put.ensures.err.1))

pub returns-in_err-hand_on : goal.returns-in_err-hand_on
returns-in_err-hand_on g c =
    let e = err_from_is_err_and c.from_residual-in_err-hand_on.result c.from_residual-in_err-hand_on.ensures.1 in
    rw (e.1, e.2) (inr (record { between = _; puts = PutsAll-one c.in_ok-put.ensures.ok c.in_ok-put.ensures.times; flushed = c.in_err-hand_on.ensures.kept; rose = c.in_err-hand_on.ensures.err }))

pub returns : goal.returns
returns g c = record { between = _; puts = PutsAll-one c.in_ok-put.ensures.ok c.in_ok-put.ensures.times; flushed = c.in_ok-hand_on.ensures.kept; out = c.in_ok-hand_on.ensures.ok }
