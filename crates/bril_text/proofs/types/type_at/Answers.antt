use Rattle.std.proofs.lemmas.Result.{err_from_is_err_and}
use Rattle.bril_grammar.specs.Machine.{typed}
use Rattle.bril_text.proofs.Moves.{along}
use Rattle.bril_text.proofs.types.type_at.Goals as goal

pub returns-in_err-ty-clause-runs : goal.returns-in_err-ty-clause-runs
returns-in_err-ty-clause-runs c =
    let p = err_from_is_err_and c.from_residual.result c.from_residual.ensures.1 in
    λ position. rw (p.1, p.2) (c.in_err-ty.ensures.runs position)

pub returns-in_err-terminals-clause-runs : goal.returns-in_err-terminals-clause-runs
returns-in_err-terminals-clause-runs c =
    let p = err_from_is_err_and c.from_residual-in_err-terminals.result c.from_residual-in_err-terminals.ensures.1 in
    λ position. rw (p.1, p.2) (along c.in_err-terminals.field-0.0 (c.in_ok-ty.ensures.runs position) (c.in_err-terminals.ensures.runs (typed position c.in_ok-ty.ty)))
