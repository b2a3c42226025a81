-- The words were executed, and their counts told.
use Rattle.std.proofs.Common.{◌≢◌, ℕ, [], Option, Some, None, refl, inl}
use Rattle.std.proofs.lemmas.Result.{err_from_is_err_and}
use Rattle.bril_commands.proofs.Works.{Works-ended, Shows-flushed, Shows-unflushed}
use Rattle.bril_commands.specs.Outcome.{end_status}
use Rattle.bril_commands.specs.commands.Run.{executed}
use Rattle.bril_report.proofs.Telling.{Tells-none}
use Rattle.bril_report.specs.declared.status.Status.TheVariants.{OutOfMemory}
use Rattle.bril_tree.specs.declared.limits.End.TheVariants.{Ended, Faulted}
use Rattle.bril_tree.specs.declared.limits.End.{End}
use Rattle.image_runs.proofs.run.run_image.Goals as goal

never_exhausted : (ended : Option End) (steps : ℕ) → end_status ended steps ≢ OutOfMemory
never_exhausted (Some Ended) steps = λ same. cc
never_exhausted (Some (Faulted fault)) steps = λ same. cc
never_exhausted None steps = λ same. cc

pub returns-in_err-ended-clause-does : goal.returns-in_err-ended-clause-does
returns-in_err-ended-clause-does g c =
    let e = err_from_is_err_and c.from_residual.result c.from_residual.ensures.1 in
    rw (e.1, e.2) (record { same_output = refl; told = []; does = (refl, inl c.in_err-ended.ensures.err); tells = Tells-none g.E.Sink.seen c.args.outputs.now.err })

pub returns-in_err-hand_on-clause-does : goal.returns-in_err-hand_on-clause-does
returns-in_err-hand_on-clause-does g c =
    let e = err_from_is_err_and c.from_residual-in_err-hand_on.result c.from_residual-in_err-hand_on.ensures.1 in
    let o = executed c.args.program.now c.args.settings.limits c.args.values.now c.args.settings.steps c.args.settings.stats in
    rw (e.1, e.2) (record { same_output = refl; told = []; does = (refl, inl (Shows-unflushed o c.in_ok-ended.ensures.ok c.in_err-hand_on.ensures.kept c.in_err-hand_on.ensures.err)); tells = Tells-none g.E.Sink.seen c.args.outputs.now.err })

pub returns-clause-does : goal.returns-clause-does
returns-clause-does g c =
    let told = rw c.as_slice-guards.ensures at c.tell_stats.ensures in
    let o = executed c.args.program.now c.args.settings.limits c.args.values.now c.args.settings.steps c.args.settings.stats in
    let works = Works-ended o c.in_ok-ended.ended _ _ _ (Shows-flushed o c.in_ok-ended.ensures.ok c.in_ok-hand_on.ensures.kept c.in_ok-hand_on.ensures.ok) in
    rw c.answer.ensures (record { same_output = refl; told = _; does = works; tells = told })

pub returns-in_err-ended-clause-memory : goal.returns-in_err-ended-clause-memory
returns-in_err-ended-clause-memory g c =
    let e = err_from_is_err_and c.from_residual.result c.from_residual.ensures.1 in
    rw (e.1, e.2) (λ same. cc)

pub returns-in_err-hand_on-clause-memory : goal.returns-in_err-hand_on-clause-memory
returns-in_err-hand_on-clause-memory g c =
    let e = err_from_is_err_and c.from_residual-in_err-hand_on.result c.from_residual-in_err-hand_on.ensures.1 in
    rw (e.1, e.2) (λ same. cc)

pub returns-clause-memory : goal.returns-clause-memory
returns-clause-memory g c = rw c.answer.ensures (never_exhausted c.in_ok-ended.ended c.args.settings.steps)
