use Rattle.std.proofs.Common.{◌≡◌, Some, sym, ap, ◌∙◌}
use Rattle.std.specs.Prelude.{slice_get}
use Rattle.bril_checker.specs.Checked.{CheckedView}
use Rattle.bril_interpreter.specs.Interpreter.{state_of, newest_frame}
use Rattle.bril_tree.specs.Step.{code_of, item_at}
use Rattle.trace_recorder.proofs.Moving.{get-item, seen_is}
use Rattle.trace_recorder.proofs.seen.seen_at.Goals as goal

pub returns : goal.returns
returns c =
    let P = c.args.now.now.checked.prog in
    let h = c.in-Some.here in
    let item = c.in-Some-get.item.now in
    let look = c.in-Some-get.ensures.lookup in
    let code : c.items_of.result.now ≡ code_of P h.func = c.items_of.ensures ∙ ap (λ p. code_of p h.func) (c.prog-2.ensures.value ∙ ap (λ (z : CheckedView). z.prog) c.prog.ensures) in
    let there : item_at P h.func h.item ≡ Some item = ap (λ xs. slice_get xs h.item) (sym code) ∙ get-item c.items_of.result.now h.item item look.0 look.1 in
    seen_is P (newest_frame (state_of c.args.now.now)) h item c.choice_at.result (sym c.in-Some.is ∙ c.here.ensures) there c.choice_at.ensures
