-- The bytes are the file of no image, or the words give it no arguments, or it was run.
use Rattle.std.proofs.Common.{refl, inl, inr}
use Rattle.std.proofs.lemmas.Result.{err_from_is_err_and}
use Rattle.bytes_commands.proofs.execute.execute.Goals as goal

pub returns-in_err-image : goal.returns-in_err-image
returns-in_err-image g c =
    let e = err_from_is_err_and c.from_residual.result c.from_residual.ensures.1 in
    rw (e.1, e.2) (inl (c.in_err-image.ensures.err, (refl, refl)))

pub returns-in_err-values : goal.returns-in_err-values
returns-in_err-values g c =
    let e = err_from_is_err_and c.from_residual-in_err-values.result c.from_residual-in_err-values.ensures.1 in
    rw (e.1, e.2) (inr (c.in_ok-image.image, c.in_ok-image.ensures.ok, inl (c.in_err-values.ensures.err, (refl, refl))))

pub run_with-requires-clause-words : goal.run_with-requires-clause-words
run_with-requires-clause-words g c = c.in_ok-image.ensures.ok.file.few

pub run_with-requires-clause-stack : goal.run_with-requires-clause-stack
run_with-requires-clause-stack g c = c.in_ok-image.ensures.ok.file.low

pub run_with-requires-clause-room : goal.run_with-requires-clause-room
run_with-requires-clause-room g c = rw c.as_slice.ensures c.in_ok-values.ensures.ok.room

pub returns : goal.returns
returns g c =
    let ran = rw c.as_slice.ensures at c.run_with.ensures in
    inr (c.in_ok-image.image, c.in_ok-image.ensures.ok, inr (c.in_ok-values.values, c.in_ok-values.ensures.ok, ran))
