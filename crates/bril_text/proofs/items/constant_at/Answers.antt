use Rattle.std.proofs.lemmas.Result.{err_from_is_err_and}
use Rattle.bril_tree.specs.declared.function_tree.Item.TheVariants as item
use Rattle.bril_grammar.specs.Machine.{with_item}
use Rattle.bril_grammar.specs.State.{AtItem}
use Rattle.bril_text.proofs.Moves.{along}
use Rattle.bril_text.proofs.items.constant_at.Goals as goal

pub returns-in_err-value-clause-runs : goal.returns-in_err-value-clause-runs
returns-in_err-value-clause-runs c =
    let p = err_from_is_err_and c.from_residual.result c.from_residual.ensures.1 in
    λ begun. rw (p.1, p.2) (c.in_err-value.ensures.runs begun c.args.dest)

pub returns-in_err-terminals-clause-runs : goal.returns-in_err-terminals-clause-runs
returns-in_err-terminals-clause-runs c =
    let p = err_from_is_err_and c.from_residual-in_err-terminals.result c.from_residual-in_err-terminals.ensures.1 in
    λ begun. rw (p.1, p.2) (along c.in_err-terminals.field-0.0 (c.in_ok-value.ensures.runs begun c.args.dest) (c.in_err-terminals.ensures.runs (AtItem (with_item begun (item.Const c.args.dest.name c.args.dest.ty c.in_ok-value.value)))))
