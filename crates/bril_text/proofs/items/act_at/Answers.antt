use Rattle.std.proofs.lemmas.Result.{err_from_is_err_and}
use Rattle.bril_text.proofs.items.act_at.Goals as goal

pub returns-in_err-operands-clause-runs : goal.returns-in_err-operands-clause-runs
returns-in_err-operands-clause-runs c =
    let p = err_from_is_err_and c.from_residual.result c.from_residual.ensures.1 in
    λ begun. rw (p.1, p.2) (c.in_err-operands.ensures.runs begun c.args.dest c.args.op)
