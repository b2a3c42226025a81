use Rattle.std.proofs.lemmas.Result.{err_from_is_err_and}
use Rattle.std.proofs.Common.{◌∙◌}
use Rattle.bril_grammar.specs.State.{AtType, ArgumentType}
use Rattle.bril_text.proofs.Moves.{along}
use Rattle.bril_text.proofs.functions.argument_at.Goals as goal

pub returns-in_err-text-clause-runs : goal.returns-in_err-text-clause-runs
returns-in_err-text-clause-runs c =
    let p = err_from_is_err_and c.from_residual.result c.from_residual.ensures.1 in
    λ begun. rw (p.1, p.2) (c.in_err-text.ensures.runs begun)

pub returns-in_err-terminals-clause-runs : goal.returns-in_err-terminals-clause-runs
returns-in_err-terminals-clause-runs c =
    let p = err_from_is_err_and c.from_residual-in_err-terminals.result c.from_residual-in_err-terminals.ensures.1 in
    λ begun. rw (p.1, p.2) (along c.in_err-terminals.field-0.0 (c.in_ok-text.ensures.runs begun) (c.in_err-terminals.ensures.runs (AtType (ArgumentType begun c.in_ok-text.text.now) 0)))

pub returns-in_err-ty-clause-runs : goal.returns-in_err-ty-clause-runs
returns-in_err-ty-clause-runs c =
    let p = err_from_is_err_and c.from_residual-in_err-ty.result c.from_residual-in_err-ty.ensures.1 in
    λ begun. rw (p.1, p.2) (along c.in_err-ty.field-0.0 (c.in_ok-text.ensures.runs begun ∙ c.in_ok-terminals.ensures.runs (AtType (ArgumentType begun c.in_ok-text.text.now) 0)) (c.in_err-ty.ensures.runs (ArgumentType begun c.in_ok-text.text.now)))
