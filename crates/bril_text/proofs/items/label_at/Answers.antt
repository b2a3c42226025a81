use Rattle.std.proofs.lemmas.Result.{err_from_is_err_and}
use Rattle.bril_tree.specs.declared.function_tree.Item.TheVariants as item
use Rattle.bril_grammar.specs.Machine.{with_item}
use Rattle.bril_grammar.specs.State.{AtItem}
use Rattle.bril_text.proofs.items.label_at.Goals as goal

pub returns-in_err-terminals-clause-runs : goal.returns-in_err-terminals-clause-runs
returns-in_err-terminals-clause-runs c =
    let p = err_from_is_err_and c.from_residual.result c.from_residual.ensures.1 in
    λ begun. rw (p.1, p.2) (c.in_err-terminals.ensures.runs (AtItem (with_item begun (item.Label c.args.text.now))))
