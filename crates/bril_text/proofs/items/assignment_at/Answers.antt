use Rattle.std.proofs.lemmas.Result.{err_from_is_err_and}
use Rattle.std.proofs.Common.{sym, ap, ◌∙◌, subst}
use Rattle.bril_grammar.specs.Machine.{run, with_item, dest_type, dest_of_type}
use Rattle.bril_grammar.specs.State.{DestinationType, AtItem, AtOperation}
use Rattle.bril_grammar.specs.Terminal.{terminals_of}
use Rattle.bril_text.specs.Parse.{Runs}
use Rattle.bril_text.proofs.Moves.{along}
use Rattle.bril_text.proofs.items.assignment_at.Goals as goal

pub returns-in_err-terminals-clause-runs : goal.returns-in_err-terminals-clause-runs
returns-in_err-terminals-clause-runs c =
    let p = err_from_is_err_and c.from_residual.result c.from_residual.ensures.1 in
    λ begun. rw (p.1, p.2) (c.in_err-terminals.ensures.runs (dest_type begun c.args.text.now))

pub returns-in_err-ty-clause-runs : goal.returns-in_err-ty-clause-runs
returns-in_err-ty-clause-runs c =
    let p = err_from_is_err_and c.from_residual-in_err-ty.result c.from_residual-in_err-ty.ensures.1 in
    λ begun. rw (p.1, p.2) (along c.in_err-ty.field-0.0 (c.in_ok-terminals.ensures.runs (dest_type begun c.args.text.now)) (c.in_err-ty.ensures.runs (DestinationType begun c.args.text.now)))

pub returns-in_err-terminals-2-clause-runs : goal.returns-in_err-terminals-2-clause-runs
returns-in_err-terminals-2-clause-runs c =
    let p = err_from_is_err_and c.from_residual-in_err-terminals-2.result c.from_residual-in_err-terminals-2.ensures.1 in
    λ begun. rw (p.1, p.2) (along c.in_err-terminals-2.field-0.0 (c.in_ok-terminals.ensures.runs (dest_type begun c.args.text.now) ∙ c.in_ok-ty.ensures.runs (DestinationType begun c.args.text.now)) (c.in_err-terminals-2.ensures.runs (AtOperation begun (dest_of_type c.args.text.now c.in_ok-ty.ty))))

pub returns-clause-runs : goal.returns-clause-runs
returns-clause-runs c = λ begun.
    subst (λ t. Runs t c.operation_at.result (λ x. run (AtItem (with_item begun x.0)) (terminals_of x.1)))
    (sym (c.in_ok-terminals.ensures.runs (dest_type begun c.args.text.now) ∙ c.in_ok-ty.ensures.runs (DestinationType begun c.args.text.now)
    ∙ c.in_ok-terminals-2.ensures.runs (AtOperation begun (dest_of_type c.args.text.now c.in_ok-ty.ty))
    ∙ ap (λ name. run (AtOperation begun (dest_of_type name c.in_ok-ty.ty)) (terminals_of c.in_ok-terminals-2.terminals)) (sym c.in_ok-name.ensures.ok)))
    (c.operation_at.ensures.runs begun)
