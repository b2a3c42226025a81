-- The run goes on, or has ended.
use Rattle.std.proofs.Common.{ap, refl, subst}
use Rattle.bril_checker.specs.Checked.{CheckedView}
use Rattle.bril_interpreter.specs.StepAnswers.{Ran}
use Rattle.bril_interpreter.specs.declared.answer.StepAnswer.{StepAnswer}
use Rattle.step_count.specs.Executed.{Counts}
use Rattle.bril_explain.proofs.Counted.{counts_end, counts_on, made_fresh}
use Rattle.bril_explain.proofs.counting.run_with.Goals as goal

pub returns-in-Go-clause-ok : goal.returns-in-Go-clause-ok
returns-in-Go-clause-ok g c =
    let i = c.in_ok-interp.interp in
    let p = c.args.checked.now.prog in
    let fresh = made_fresh i p _ c.args.values.now c.in_ok-interp.ensures.state (ap (λ (k : CheckedView). k.prog) c.in_ok-interp.ensures.checked) c.in_ok-interp.ensures.limits c.in_ok-interp.ensures.sound in
    let s = g.O.Sink.seen c.args.out.now in
    let t = g.O.Sink.seen c.run_counted-run.new.out in
    let run = c.run_counted-run.result in
    counts_on i p _ c.args.values.now fresh refl refl c.run_counted-run.new.interp s t run.executed
    (subst (λ (a : StepAnswer). Counts a i 1000000000000 run.executed) c.in-Go.is c.run_counted-run.ensures.counted)
    (subst (λ (a : StepAnswer). Ran a 1000000000000 i c.run_counted-run.new.interp s t) c.in-Go.is c.run_counted-run.ensures.ran)

pub returns-in-End-clause-ok : goal.returns-in-End-clause-ok
returns-in-End-clause-ok g c =
    let i = c.in_ok-interp.interp in
    let p = c.args.checked.now.prog in
    let fresh = made_fresh i p _ c.args.values.now c.in_ok-interp.ensures.state (ap (λ (k : CheckedView). k.prog) c.in_ok-interp.ensures.checked) c.in_ok-interp.ensures.limits c.in_ok-interp.ensures.sound in
    let s = g.O.Sink.seen c.args.out.now in
    let t = g.O.Sink.seen c.run_counted-run.new.out in
    let run = c.run_counted-run.result in
    counts_end i p _ c.args.values.now fresh refl refl c.run_counted-run.new.interp s t run.executed c.in-End.end
    (subst (λ (a : StepAnswer). Counts a i 1000000000000 run.executed) c.in-End.is c.run_counted-run.ensures.counted)
    (subst (λ (a : StepAnswer). Ran a 1000000000000 i c.run_counted-run.new.interp s t) c.in-End.is c.run_counted-run.ensures.ran)
