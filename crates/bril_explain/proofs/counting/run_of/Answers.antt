-- The words spell the values, or are refused.
use Rattle.std.proofs.Common.{inl, inr, subst, sym}
use Rattle.std.proofs.lemmas.Result.{err_from_is_err_and}
use Rattle.bril_commands.specs.Arguments.{AreOnlyValues, RefusesArgs}
use Rattle.bril_explain.proofs.counting.run_of.Goals as goal

pub returns-in_err-values-clause-err : goal.returns-in_err-values-clause-err
returns-in_err-values-clause-err g c =
    let e = err_from_is_err_and c.from_residual.result c.from_residual.ensures.1 in
    rw (e.1, e.2) (inl (subst (λ p. RefusesArgs c.in_err-values.field-0.0 p c.args.words.now) c.prog.ensures.value c.in_err-values.ensures.err))

pub returns-in_err-run-clause-err : goal.returns-in_err-run-clause-err
returns-in_err-run-clause-err g c =
    let e = err_from_is_err_and c.from_residual-in_err-run.result c.from_residual-in_err-run.ensures.1 in
    rw (e.1, e.2) (inr c.in_err-run.ensures.err)

pub returns-clause-ok : goal.returns-clause-ok
returns-clause-ok g c = record {
  values = c.as_slice.result.now;
  are = subst (λ p. AreOnlyValues p c.args.words.now c.as_slice.result.now) c.prog.ensures.value
      (subst (AreOnlyValues c.prog.result.now c.args.words.now) (sym c.as_slice.ensures) c.in_ok-values.ensures.ok);
  counts = c.in_ok-run.ensures.ok;
}
