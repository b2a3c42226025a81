-- The outputs are those that were lent.
use Rattle.std.proofs.Common.{◌≡◌, ap, subst, rules}
use Rattle.bril_outside.specs.Sink.{SinkSeen}
use Rattle.bril_report.specs.Told.{Heard}
use Rattle.bril_commands.proofs.Budgets.{spent-past_budget}
use Rattle.bril_commands.proofs.RunIsCorrect.{RunIsCorrect-promised}
use Rattle.bril_commands.specs.Answers.{Promises}
use Rattle.bril_commands.specs.Call.{call_of}
use Rattle.shipped_passes.proofs.Budgets.{AreShipped-within}
use Rattle.bril_cli.proofs.Completeness.{IsComplete-promised}
use Rattle.bril_cli.proofs.top.bril_top.Goals as goal

pub answer-requires : goal.answer-requires
answer-requires g c = record { sound = ap (λ (h : Heard). h.failed) c.new.ensures.begins }

pub returns-clause-promises : goal.returns-clause-promises
returns-clause-promises g c =
    let begins = ap (λ (h : Heard). h.seen) c.new.ensures.begins in
    let out : c.answer.new.outputs.out.now ≡ c.out-1.given.0 = search rules in
    let err : c.answer.new.outputs.err.sink.now ≡ c.err-1.given.0 = search rules in
    let Holds : SinkSeen → SinkSeen → SinkSeen → Type 0 = λ e o f. Promises c.answer.result
    (call_of c.args.words.now (g.F.Files.seen c.args.files.now) (g.F.Files.seen c.answer.new.files)
    (g.O.Sink.seen c.args.out.now) o e f
    (λ p. (goal.Pass-dyn g (p.vtable, p.value)).meaning p.value) (λ p. (goal.Pass-dyn g (p.vtable, p.value)).counts p.value) c.args.passes.now c.answer.new.passes) in
    subst (λ (f : SinkSeen). Holds (g.E.Sink.seen c.args.err.now) (g.O.Sink.seen c.out-1.given.0) f) (ap g.E.Sink.seen err)
    (subst (λ (o : SinkSeen). Holds (g.E.Sink.seen c.args.err.now) o (g.E.Sink.seen c.answer.new.outputs.err.sink.now)) (ap g.O.Sink.seen out)
    (subst (λ (e : SinkSeen). Holds e (g.O.Sink.seen c.answer.new.outputs.out.now) (g.E.Sink.seen c.answer.new.outputs.err.sink.now)) begins c.answer.ensures.promises))

pub returns-clause-budget : goal.returns-clause-budget
returns-clause-budget g c shipped =
    spent-past_budget _ c.answer.result
    (call_of c.args.words.now (g.F.Files.seen c.args.files.now) (g.F.Files.seen c.answer.new.files)
    (g.O.Sink.seen c.args.out.now) (g.O.Sink.seen c.out-1.given.0) (g.E.Sink.seen c.args.err.now) (g.E.Sink.seen c.err-1.given.0)
    (λ p. (goal.Pass-dyn g (p.vtable, p.value)).meaning p.value) (λ p. (goal.Pass-dyn g (p.vtable, p.value)).counts p.value) c.args.passes.now c.answer.new.passes)
    (returns-clause-promises g c) (AreShipped-within (λ p. (goal.Pass-dyn g (p.vtable, p.value)).meaning p.value) c.args.passes.now shipped)

pub returns-clause-run : goal.returns-clause-run
returns-clause-run g c = RunIsCorrect-promised _ _ (returns-clause-promises g c)

pub returns-clause-complete : goal.returns-clause-complete
returns-clause-complete g c = IsComplete-promised _ _ (returns-clause-promises g c)
