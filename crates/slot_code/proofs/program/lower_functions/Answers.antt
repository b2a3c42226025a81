use Rattle.std.proofs.Common.{ap, ◌∙◌, subst}
use Rattle.std.specs.Option.{IfSome}
use Rattle.bril_tree.specs.Accepted.{IsAccepted}
use Rattle.bril_tree.specs.FrameWords.{AreFrameWords}
use Rattle.bril_tree.proofs.Acceptance.{accepted_function, shaped_function}
use Rattle.slot_code.proofs.Functions.{function_at, next_function}
use Rattle.slot_code.proofs.program.lower_functions.Goals as goal

pub lower_function-requires-clause-shaped : goal.lower_function-requires-clause-shaped
lower_function-requires-clause-shaped c =
    let p = c.args.checked.now.prog in
    let f = c.func-item.result in
    let accepted : IsAccepted p = subst IsAccepted c.prog.ensures.value c.prog.ensures.accepted in
    let same = c.as_slice-func-items.ensures ∙ ap (λ q. q.funcs) c.prog.ensures.value in
    let found = function_at p.funcs c.as_slice-func-items.result.now same c.loop-number.number f c.loop-number-test.true c.func-item.is in
    shaped_function p f (accepted_function p c.loop-number.number f accepted found)

pub lower_function-requires-clause-sound : goal.lower_function-requires-clause-sound
lower_function-requires-clause-sound c =
    let p = c.args.checked.now.prog in
    let f = c.func-item.result in
    let accepted : IsAccepted p = subst IsAccepted c.prog.ensures.value c.prog.ensures.accepted in
    let same = c.as_slice-func-items.ensures ∙ ap (λ q. q.funcs) c.prog.ensures.value in
    let found = function_at p.funcs c.as_slice-func-items.result.now same c.loop-number.number f c.loop-number-test.true c.func-item.is in
    (accepted_function p c.loop-number.number f accepted found).sites

pub lower_function-requires-clause-words : goal.lower_function-requires-clause-words
lower_function-requires-clause-words c =
    let p = c.args.checked.now.prog in
    let f = c.func-item.result in
    let same = c.as_slice-func-items.ensures ∙ ap (λ q. q.funcs) c.prog.ensures.value in
    let found = function_at p.funcs c.as_slice-func-items.result.now same c.loop-number.number f c.loop-number-test.true c.func-item.is in
    subst (λ o. IfSome o (λ g. AreFrameWords g c.frame_words-words.result)) found c.frame_words-words.ensures

pub loop-number-preserved : goal.loop-number-preserved
loop-number-preserved c =
    let p = c.args.checked.now.prog in
    let same = c.as_slice-func-items.ensures ∙ ap (λ q. q.funcs) c.prog.ensures.value in
    next_function p.funcs c.as_slice-func-items.result.now same c.loop-number.number c.func-item.result
    c.loop-number.funcs c.push.new.self c.in_ok-lower_function.field-0 c.loop-number-test.true c.func-item.is c.in_ok-push.ensures.ok c.loop-number.invariant c.in_ok-lower_function.ensures
