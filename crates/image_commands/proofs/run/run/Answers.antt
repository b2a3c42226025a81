-- The arguments spell no values, or the list of passes makes no program, or what it makes is run.
use Rattle.std.proofs.Common.{[], refl, inl, inr, ⊎_elim}
use Rattle.std.proofs.lemmas.Result.{err_from_is_err_and}
use Rattle.bril_commands.proofs.Running.{run_shows}
use Rattle.bril_commands.proofs.Sources.{fits_made}
use Rattle.bril_commands.proofs.Works.{Works-as}
use Rattle.bril_commands.specs.Driver.{subject}
use Rattle.bril_commands.specs.commands.Run.{executed, ran, runs}
use Rattle.bril_commands.specs.PassList.{pass_list}
use Rattle.bril_report.proofs.Telling.{Tells-none}
use Rattle.bril_report.specs.StageFaults.{status_of}
use Rattle.bril_words.specs.Seen.{text_seen}
use Rattle.pass_law.proofs.Same.{AllSame-refl}
use Rattle.image_commands.proofs.run.run.Goals as goal

pub returns-in_err-values-clause-does : goal.returns-in_err-values-clause-does
returns-in_err-values-clause-does g c =
    let e = err_from_is_err_and c.from_residual.result c.from_residual.ensures.1 in
    rw (e.1, e.2) (record { same_output = refl; told = []; does = inl (rw c.prog.ensures.value at c.in_err-values.ensures.err, ((refl, refl), refl)); tells = Tells-none g.E.Sink.seen c.args.outputs.now.err })

pub returns-in_err-made-clause-does : goal.returns-in_err-made-clause-does
returns-in_err-made-clause-does g c =
    let e = err_from_is_err_and c.from_residual-in_err-made.result c.from_residual-in_err-made.ensures.1 in
    let are = rw c.prog.ensures.value at c.in_ok-values.ensures.ok in
    rw (e.1, e.2) (record {
      same_output = refl;
      told = [];
      does = inr (c.in_ok-values.values, are, ⊎_elim (λ unread. inl (unread.0, ((refl, refl), unread.1))) (λ refused. inr (refused.0, refused.1, inl (refused.2, (refl, refl)))) c.in_err-made.ensures.err);
      tells = Tells-none g.E.Sink.seen c.args.outputs.now.err;
    })

pub run_with-requires : goal.run_with-requires
run_with-requires g c =
    let accepted = rw c.prog.ensures.value at c.prog.ensures.accepted in
    let fits = rw c.prog.ensures.value at c.in_ok-values.ensures.fits in
    let l = (pass_list (λ p. (goal.Pass-dyn g (p.vtable, p.value)).meaning p.value) (λ p. (goal.Pass-dyn g (p.vtable, p.value)).counts p.value) c.args.passes.now c.made_program.new.passes c.args.names.now) in
    let made = c.in_ok-made.ensures.ok in
    fits_made l made.entries c.args.checked.prog c.in_ok-made.made.prog made.made accepted c.in_ok-values.values fits

pub returns-clause-does : goal.returns-clause-does
returns-clause-does g c =
    let are = rw c.prog.ensures.value at c.in_ok-values.ensures.ok in
    let accepted = rw c.prog.ensures.value at c.prog.ensures.accepted in
    let fits = rw c.prog.ensures.value at c.in_ok-values.ensures.fits in
    let did = c.run_with.ensures in
    let settings = c.args.settings in
    let l = (pass_list (λ p. (goal.Pass-dyn g (p.vtable, p.value)).meaning p.value) (λ p. (goal.Pass-dyn g (p.vtable, p.value)).counts p.value) c.args.passes.now c.made_program.new.passes c.args.names.now) in
    let made = c.in_ok-made.ensures.ok in
    let q = c.in_ok-made.made.prog in
    let shows = run_shows l made.entries c.args.checked.prog q made.made accepted settings.limits settings.limits.frames settings.limits.cells (refl, refl) c.in_ok-values.values fits settings.steps settings.stats in
    let on = subject (runs settings.limits.frames settings.limits.cells settings.steps settings.stats) l (text_seen c.args.request.second) (g.F.Files.seen c.args.files.now).holds made.entries c.args.checked.prog q made.made c.in_ok-values.values in
    let works = Works-as (executed q settings.limits c.in_ok-values.values settings.steps settings.stats) (ran on settings.limits.frames settings.limits.cells settings.steps settings.stats) refl refl shows (λ trap told output none. none) (λ output none. none) did.told _ _ (status_of c.run_with.result) in
    record {
      same_output = did.same_output;
      told = did.told;
      does = inr (c.in_ok-values.values, are, inr (made.entries, made.profiled, inr (q, made.made, ⊎_elim inl (λ went. inr (went.0, works went.1)) did.does)));
      tells = did.tells;
    }

pub returns-in_err-values-clause-same : goal.returns-in_err-values-clause-same
returns-in_err-values-clause-same g c = AllSame-refl (λ p. (goal.Pass-dyn g (p.vtable, p.value)).meaning p.value) c.args.passes.now
