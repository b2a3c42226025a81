-- There was no memory for the names of the list, or the action was done.
use Rattle.std.proofs.Common.{ℕ, List, [], ◌∙◌, refl, ap, inl, subst, rules}
use Rattle.std.proofs.lemmas.Result.{err_from_is_err_and}
use Rattle.bril_commands.proofs.Keeping.{kept}
use Rattle.bril_commands.proofs.Reading.{memory_refuses}
use Rattle.bril_commands.specs.Command.{takes_passes, reach}
use Rattle.bril_commands.specs.Driver.{DoesFiles}
use Rattle.bril_commands.specs.PassList.{pass_list}
use Rattle.bril_commands.specs.CommandLine.{list_for}
use Rattle.bril_commands.specs.Table.{command, KeepsPasses}
use Rattle.bril_report.proofs.Telling.{Tells-none}
use Rattle.bril_report.specs.StageFaults.{status_of}
use Rattle.bril_words.specs.Names.{names_of}
use Rattle.bril_words.specs.Seen.{text_seen}
use Rattle.bril_driver.proofs.driver.drive.Goals as goal

pub returns-in_err-names-clause-does : goal.returns-in_err-names-clause-does
returns-in_err-names-clause-does g c =
    let e = err_from_is_err_and c.from_residual.result c.from_residual.ensures.1 in
    let refuses = memory_refuses (reach (command c.args.request.action)) (g.F.Files.seen c.args.files.now) (g.F.Files.seen c.args.files.now) c.args.request.path.now in
    rw (e.1, e.2) (record { same_output = refl; told = []; does = inl (refuses, ((refl, refl), refl)); tells = Tells-none g.E.Sink.seen c.args.outputs.now.err })

pub returns-clause-does : goal.returns-clause-does
returns-clause-does g c =
    let did = c.do_action.ensures.does in
    let does = λ (boxes : _) (names : List (List ℕ)). DoesFiles (command c.args.request.action) (status_of c.do_action.result)
    (pass_list (λ p. (goal.Pass-dyn g (p.vtable, p.value)).meaning p.value) (λ p. (goal.Pass-dyn g (p.vtable, p.value)).counts p.value) c.args.passes.now boxes names)
    (g.F.Files.seen c.args.files.now) (g.F.Files.seen c.do_action.new.files) c.args.request.path.now (text_seen c.args.request.second) c.args.request.args.now did.told (g.O.Sink.seen c.args.outputs.now.out.now) (g.O.Sink.seen c.do_action.new.outputs.out.now) in
    let named = subst (λ (names : List (List ℕ)). does c.do_action.new.passes.boxes.now names) (c.in_ok-names.ensures ∙ ap names_of c.list_for.ensures.is) did.does in
    record {
      same_output = did.same_output;
      told = did.told;
      does = subst (λ boxes. does boxes (names_of (list_for c.args.request.action c.args.request.list.now))) (search rules) named;
      tells = did.tells;
    }

pub returns-clause-keeps : goal.returns-clause-keeps
returns-clause-keeps g c =
    subst (λ after. KeepsPasses (λ p. (goal.Pass-dyn g (p.vtable, p.value)).meaning p.value) c.args.request.action c.args.passes.now after) (search rules) c.do_action.ensures.keeps

pub returns-in_err-names-clause-keeps : goal.returns-in_err-names-clause-keeps
returns-in_err-names-clause-keeps g c = kept (λ p. (goal.Pass-dyn g (p.vtable, p.value)).meaning p.value) (takes_passes (command c.args.request.action)) c.args.passes.now
