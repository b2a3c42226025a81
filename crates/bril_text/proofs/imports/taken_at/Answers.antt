use Rattle.std.proofs.lemmas.Result.{err_from_is_err_and}
use Rattle.bril_text.proofs.Moves.{along}
use Rattle.bril_text.proofs.imports.taken_at.Goals as goal

pub returns-in_err-text-clause-runs : goal.returns-in_err-text-clause-runs
returns-in_err-text-clause-runs c =
    let p = err_from_is_err_and c.from_residual.result c.from_residual.ensures.1 in
    λ i. rw (p.1, p.2) (c.in_err-text.ensures.taken i)

pub returns-in_err-alias-clause-runs : goal.returns-in_err-alias-clause-runs
returns-in_err-alias-clause-runs c =
    let p = err_from_is_err_and c.from_residual-in_err-alias.result c.from_residual-in_err-alias.ensures.1 in
    λ i. rw (p.1, p.2) (along c.in_err-alias.field-0.0 (c.in_ok-text.ensures.taken i) (c.in_err-alias.ensures.runs i c.in_ok-text.text.now))
