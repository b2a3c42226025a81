use Rattle.std.proofs.Common.{sym, ◌∙◌, subst}
use Rattle.bril_grammar.specs.Machine.{run, with_item}
use Rattle.bril_grammar.specs.State.{AtItem}
use Rattle.bril_grammar.specs.Terminal.{terminals_of}
use Rattle.bril_text.specs.Parse.{Runs}
use Rattle.bril_text.proofs.Moves.{item_colon, item_operation}
use Rattle.bril_text.proofs.items.instruction_at.Goals as goal

pub returns-then-begins_with-clause-runs : goal.returns-then-begins_with-clause-runs
returns-then-begins_with-clause-runs c = λ begun.
    subst (λ t. Runs t c.assignment_at.result (λ x. run (AtItem (with_item begun x.0)) (terminals_of x.1)))
    (sym (item_colon begun c.args.text.now c.args.terminals (sym c.begins_with.ensures ∙ c.if-begins_with.true)))
    (c.assignment_at.ensures.runs begun)

pub returns-in-Operation-clause-runs : goal.returns-in-Operation-clause-runs
returns-in-Operation-clause-runs c = λ begun.
    subst (λ t. Runs t c.act_at.result (λ x. run (AtItem (with_item begun x.0)) (terminals_of x.1)))
    (sym (item_operation begun c.in-Operation.op c.args.text.now (terminals_of c.args.terminals) (sym c.in-Operation.ensures) (sym c.begins_with.ensures ∙ c.if-begins_with.false)))
    (c.act_at.ensures.runs begun)
