-- The put of the first piece fails, or one of the rest.
use Rattle.std.proofs.Common.{map}
use Rattle.std.proofs.lemmas.Result.{err_from_is_err_and}
use Rattle.bril_outside.proofs.SinkWrites.{PutAll-one, PutSome-after, PutSome-longer, PutSome-one}
use Rattle.monitor_command.proofs.lines.+put_pieces.Goals as goal

pub returns-in_err-put-in-Some-clause-err : goal.returns-in_err-put-in-Some-clause-err
returns-in_err-put-in-Some-clause-err g t c =
    let e = err_from_is_err_and c.from_residual.result c.from_residual.ensures.1 in
    let failed = c.in_err-put-in-Some.ensures in
    rw (e.1, c.in-Some.ensures.cases.0) (PutSome-longer (map (λ piece. piece.now) c.in-Some.rest.now) (PutSome-one failed.err.0 failed.times failed.err.1))

pub returns-in_err-put_pieces-in-Some-clause-err : goal.returns-in_err-put_pieces-in-Some-clause-err
returns-in_err-put_pieces-in-Some-clause-err g t c =
    let e = err_from_is_err_and c.from_residual-in_err-put_pieces-in-Some.result c.from_residual-in_err-put_pieces-in-Some.ensures.1 in
    let took = c.in_ok-put-in-Some.ensures in
    rw (e.1, c.in-Some.ensures.cases.0) (PutSome-after (PutAll-one took.ok took.times) c.in_err-put_pieces-in-Some.ensures.err)
