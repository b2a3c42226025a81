use Rattle.std.proofs.lemmas.Result.{err_from_is_err_and}
use Rattle.std.proofs.Common.{◌∙◌}
use Rattle.bril_text.proofs.Moves.{along}
use Rattle.bril_text.proofs.functions.function_at.Goals as goal

pub returns-in_err-args-clause-runs : goal.returns-in_err-args-clause-runs
returns-in_err-args-clause-runs c =
    let p = err_from_is_err_and c.from_residual.result c.from_residual.ensures.1 in
    λ imports funcs. rw (p.1, p.2) (c.in_err-args.ensures.runs imports funcs c.args.text.now)

pub returns-in_err-ret-clause-runs : goal.returns-in_err-ret-clause-runs
returns-in_err-ret-clause-runs c =
    let p = err_from_is_err_and c.from_residual-in_err-ret.result c.from_residual-in_err-ret.ensures.1 in
    λ imports funcs. rw (p.1, p.2) (along c.in_err-ret.field-0.0 (c.in_ok-args.ensures.runs imports funcs c.args.text.now) (c.in_err-ret.ensures.runs imports funcs c.args.text.now c.in_ok-args.args))

pub returns-in_err-code-clause-runs : goal.returns-in_err-code-clause-runs
returns-in_err-code-clause-runs c =
    let p = err_from_is_err_and c.from_residual-in_err-code.result c.from_residual-in_err-code.ensures.1 in
    λ imports funcs. rw (p.1, p.2) (along c.in_err-code.field-0.0 (c.in_ok-args.ensures.runs imports funcs c.args.text.now ∙ c.in_ok-ret.ensures.runs imports funcs c.args.text.now c.in_ok-args.args) (c.in_err-code.ensures.runs imports funcs c.args.text.now c.in_ok-args.args c.in_ok-ret.ret))
