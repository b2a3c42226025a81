-- There is no accepted program, or it was not run to its end, or its count is told.
use Rattle.std.proofs.Common.{inl, inr, refl}
use Rattle.std.proofs.lemmas.Result.{err_from_is_err_and}
use Rattle.bril_explain.proofs.counting.counted.Goals as goal

pub returns-in_err-checked : goal.returns-in_err-checked
returns-in_err-checked g c =
    let e = err_from_is_err_and c.from_residual.result c.from_residual.ensures.1 in
    rw (e.1, e.2) (inr (inl c.in_err-checked.ensures.err, refl))

pub returns-in_err-run : goal.returns-in_err-run
returns-in_err-run g c =
    let e = err_from_is_err_and c.from_residual-in_err-run.result c.from_residual-in_err-run.ensures.1 in
    rw (e.1, e.2) (inr (inr (record { p = c.in_ok-checked.checked.prog; accepted = c.in_ok-checked.ensures.ok; refuses = c.in_err-run.ensures.err }), refl))

pub returns-in_err-hand_on : goal.returns-in_err-hand_on
returns-in_err-hand_on g c =
    let e = err_from_is_err_and c.from_residual-in_err-hand_on.result c.from_residual-in_err-hand_on.ensures.1 in
    rw (e.1, e.2) (inr (inr (record { p = c.in_ok-checked.checked.prog; accepted = c.in_ok-checked.ensures.ok; refuses = inr (inr refl) }), refl))

pub returns : goal.returns
returns g c = inl (record {
  p = c.in_ok-checked.checked.prog;
  accepted = c.in_ok-checked.ensures.ok;
  run = c.in_ok-run.run';
  between = g.O.Sink.seen c.run_of.new.out;
  is = c.in_ok-run.ensures.ok;
  out = c.in_ok-hand_on.ensures.ok;
  status = c.answer.ensures;
  told = c.put_count.ensures;
})
