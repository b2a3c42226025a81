-- The others are put after all of the first piece.
use Rattle.std.proofs.Common.{[], ◌∷◌, rules}
use Rattle.bril_outside.proofs.SinkWrites.{PutAll-one, PutSome-one, PutSome-longer, PutSome-after}
use Rattle.bril_outside.proofs.sink.put_three.Goals as goal

pub returns-in_err-put-clause-err : goal.returns-in_err-put-clause-err
returns-in_err-put-clause-err g c =
    let failed = c.in_err-put.ensures in
    let some = PutSome-longer (c.args.second.now ∷ c.args.third.now ∷ []) (PutSome-one failed.err.0 failed.times failed.err.1) in search rules

pub returns-in-Err-clause-err : goal.returns-in-Err-clause-err
returns-in-Err-clause-err g c =
    let front = c.in_ok-put.ensures in
    PutSome-after (PutAll-one front.ok front.times) c.in-Err.ensures.err
