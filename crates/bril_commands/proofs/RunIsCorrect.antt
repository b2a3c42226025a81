-- A run comes as its source has it, by what the top call promises.
use Rattle.std.proofs.Common.{◌≡◌, ℕ, ◌⊎◌, true, false, Bool, append-nil, List, [], ◌∷◌, ◌++◌, Option, Some, None, refl, sym, ap, ◌∙◌, subst, arith, inl, inr, ⊎_elim}
use Rattle.bril_outside.specs.Files.{FileMap}
use Rattle.bril_outside.specs.Sink.{SinkSeen, Took, joined}
use Rattle.bril_profile.specs.declared.profile.Profile.{Profile}
use Rattle.bril_report.specs.Lines.{fault_line}
use Rattle.bril_report.specs.Puts.{Puts, WritesAll}
use Rattle.bril_report.specs.Report.{spent_pieces}
use Rattle.bril_tree.specs.Run.{state_after}
use Rattle.bril_tree.specs.declared.limits.End.TheVariants.{Ended, Faulted}
use Rattle.bril_tree.specs.declared.limits.End.{End}
use Rattle.bril_tree.specs.declared.limits.Limits.{Limits}
use Rattle.bril_tree.specs.declared.program.Prog.{Prog}
use Rattle.bril_words.proofs.Limits.{limits_same}
use Rattle.bril_words.specs.declared.subcommands.Action.TheVariants.{Program}
use Rattle.bril_words.specs.declared.subcommands.Action.{Action}
use Rattle.bril_words.specs.declared.subcommands.PassesAction.TheVariants.{Run}
use Rattle.bril_words.specs.declared.subcommands.ProgramAction.TheVariants.{WithPasses}
use Rattle.import_linker.specs.Linked.{Linked}
use Rattle.rv64_image_laws.specs.Implements.{image_after}
use Rattle.rv64_image_laws.specs.Shown.{ProgramEnds}
use Rattle.rv64_image_laws.specs.WordBounds.{IsWithin}
use Rattle.rv64_words.specs.State.{Stop, Finished, Trapped}
use Rattle.bril_commands.proofs.Budgets.{runs_past_list}
use Rattle.bril_commands.proofs.Causes.{asked_action}
use Rattle.bril_commands.specs.Answers.{Answers, Exhausted, Promises}
use Rattle.bril_commands.specs.Call.{Call}
use Rattle.bril_commands.specs.Comes.{CommandComesTo, ComesTo, ReadsWell, TellsRun}
use Rattle.bril_commands.specs.Command.{Emission, FactorOf, AreEnough, ImageFor, Makes}
use Rattle.bril_commands.specs.CommandLine.{Asks}
use Rattle.bril_commands.specs.Driver.{subject}
use Rattle.bril_commands.specs.Outcome.{ShowsSo}
use Rattle.bril_commands.specs.ProfileFiles.{IsProfileAt, IsProfileTold}
use Rattle.bril_commands.specs.RunIsCorrect.{AsksToRun, ComesAsSource, HasEnded, IsTooLarge, RunsOn, Says}
use Rattle.bril_commands.specs.Sources.{SourceRunsOn, SourceShows}
use Rattle.bril_commands.specs.Stats.{stats_told}
use Rattle.bril_commands.specs.Table.{command}
use Rattle.bril_commands.specs.When.{AfterEmission, IsDoneUnless, StopsTooLarge, StopsUnknown}
use Rattle.bril_commands.specs.commands.Run.{RunShows, runs}

-- ---- what is put

-- the output took all pieces, and so their bytes
took_bytes : {s t : SinkSeen} {pieces : List (List ℕ)} {bytes : List ℕ} → joined pieces ≡ bytes → WritesAll s pieces t → Took s bytes t
took_bytes {s} {t} {pieces} {bytes} same wrote = subst (λ (bs : List ℕ). Took s bs t) same (record {
  written = wrote.flushed.written ∙ wrote.puts.put.took.took.written;
  amount = wrote.flushed.amount ∙ wrote.puts.put.took.took.amount;
  faults = let put = wrote.puts.put.took.took.faults in let flushed = wrote.flushed.faults in omega (arith, put, flushed);
})

-- ---- what is asked

-- files that are told tell the profile's
profile_told : (named : Option (List ℕ)) {holds : Option FileMap} (map : FileMap) → holds ≡ Some map → IsProfileTold named holds
profile_told None map told = tt
profile_told (Some path) map told = (map, told)

-- the profile without entries
no_profile : Profile
no_profile = record { entries = []; few = omega arith; short = λ k d h. absurd (omega arith); counted = λ k d h. absurd (omega arith) }

None_not_Some : {place : ℕ} → ◌≡◌ {A = Option ℕ} None (Some place) → ⊥
None_not_Some e = cc

module _ (status : ℕ) (c : Call) (promises : Promises status c) (run : AsksToRun c) where
  abbrev Asked : Action
  Asked = Program (WithPasses (Run run.settings))

  abbrev Image : Emission
  Image = ImageFor run.settings.limits.frames run.settings.limits.cells

  abbrev reads : ReadsWell c Asked
  reads = record { path = run.path; args = run.args; asked = run.asked; told = (run.files, run.told); told_profile = profile_told c.second run.files run.told; sound = run.read }

  -- ---- each status

  -- the output got nothing where memory ran out
  unput : Exhausted c → c.out_after ≡ c.out_before
  unput says = ⊎_elim (λ same. same) (λ some. absurd (none some.0 some.1 some.2)) says.leaves
    where
      none : (asks : Asks c.words) (output : List (List ℕ)) → ComesTo c asks (λ o. o.Exhausts output) → ⊥
      none asks output comes =
          (subst (λ (a : Action). CommandComesTo (command a) c asks.path asks.args (λ o. o.Exhausts output)) (sym (asked_action c asks Asked run.path run.args run.asked)) comes).is

  silent : (status ≡ 68) ⊎ (status ≡ 71) → c.out_after ≡ c.out_before
  silent = ⊎_elim (λ e. promises.silent (omega (arith, e)) (omega (arith, e))) (λ e. unput (subst (λ n. Answers n c) e promises.answers))

  exhausted : status ≡ 71 → ComesAsSource status c run
  exhausted is = record {
    done = λ e. absurd (omega (arith, is, e));
    faulted = λ e. absurd (omega (arith, is, e));
    spent = λ e. absurd (omega (arith, is, e));
    refused = λ e. absurd (omega (arith, is, e));
    silent = silent;
    only = inr (inr (inr (inr is)));
  }

  too_large : IsTooLarge c run → status ≡ 68 → ComesAsSource status c run
  too_large because is = record {
    done = λ e. absurd (omega (arith, is, e));
    faulted = λ e. absurd (omega (arith, is, e));
    spent = λ e. absurd (omega (arith, is, e));
    refused = λ e. because;
    silent = silent;
    only = inr (inr (inr (inl is)));
  }

  stops : StopsUnknown status c ⊎ StopsTooLarge status c run.entries run.source → ComesAsSource status c run
  stops (inl unknown) = absurd (None_not_Some (sym (run.known no_profile) ∙ unknown.unknown no_profile))
  stops (inr long) = too_large (inl (long.place, long.bound, long.refused)) long.is

  -- ---- the run

  module _ (made : Prog) (makes : Makes true c.passes run.entries run.source made) (told output : List (List ℕ)) (took : WritesAll c.out_before output c.out_after) where
    abbrev Shows : Option End → Type 0
    Shows ended = RunShows run.source made (FactorOf true c.passes run.entries run.source made makes) (AreEnough true c.passes run.entries run.source) run.values run.settings.limits.frames run.settings.limits.cells run.settings.steps run.settings.stats ended told output

    limits_are : (ended : Option End) (shows : Shows ended) → shows.limits ≡ run.settings.limits
    limits_are ended shows = limits_same shows.limits run.settings.limits shows.are.0 shows.are.1

    source_shows : (ended : Option End) → Shows ended → SourceShows run.source made (FactorOf true c.passes run.entries run.source made makes) run.settings.limits run.values run.settings.steps ended (joined output)
    source_shows ended shows = subst (λ (l : Limits). SourceShows run.source made (FactorOf true c.passes run.entries run.source made makes) l run.values run.settings.steps ended (joined output)) (limits_are ended shows) shows.shows_source

    said : (ended : Option End) → Shows ended → (line : List (List ℕ)) → Puts c.err_before (told ++ line) c.err_after → Says c run line
    said ended shows line puts = record {
      counts = told;
      uncounted = λ (e : run.settings.stats ≡ false). shows.executes.tells.lines ∙ ap (λ (stats : Bool). stats_told stats made shows.executes.shows.machine.image.guards (image_after shows.executes.shows.machine.image shows.limits run.values run.settings.steps)) e;
      says = puts;
    }

    has_ended : (end : End) → Shows (Some end) → (line : List (List ℕ)) → Puts c.err_before (told ++ line) c.err_after → HasEnded c run end line
    has_ended end shows line puts =
        let source : ProgramEnds run.source run.settings.limits run.values end (joined output) = source_shows (Some end) shows in
        record { steps = source.steps; ended = source.ended; took = took_bytes (sym source.prints) took; out = took.out.out; says = said (Some end) shows line puts }

    runs_on : Shows None → Puts c.err_before (told ++ spent_pieces run.settings.steps) c.err_after → RunsOn c run
    runs_on shows puts =
        let source : SourceRunsOn run.source made (FactorOf true c.passes run.entries run.source made makes) run.settings.limits run.values run.settings.steps (joined output) = source_shows None shows in
        record {
          output = joined output;
          took = took_bytes refl took;
          out = took.out.out;
          steps = source.steps;
          begins = source.begins;
          made = made;
          makes = makes;
          too_few = source.runs;
          below_budget = λ n enough. subst (λ (l : Limits). (state_after run.source l run.values n).ended ≡ None) (limits_are None shows) (runs_past_list shows n enough);
          says = said None shows (spent_pieces run.settings.steps) puts;
        }

    -- what the machine that ran an image shows; it never traps
    abbrev ShowsStop : Option Stop → Type 0
    ShowsStop None = Shows None
    ShowsStop (Some (Finished end)) = Shows (Some end)
    ShowsStop (Some (Trapped trap)) = ⊥

    ran : (ended : Option Stop) → ShowsStop ended → TellsRun ended run.settings.steps told status c → ComesAsSource status c run
    ran (Some (Trapped trap)) shows tells = absurd shows
    ran (Some (Finished Ended)) shows tells = record {
      done = λ e. has_ended Ended shows [] (subst (λ (ps : List (List ℕ)). Puts c.err_before ps c.err_after) (sym (append-nil told)) tells.1);
      faulted = λ e. absurd (let is = tells.0 in omega (arith, is, e));
      spent = λ e. absurd (let is = tells.0 in omega (arith, is, e));
      refused = λ e. absurd (let is = tells.0 in omega (arith, is, e));
      silent = silent;
      only = inl tells.0;
    }
    ran (Some (Finished (Faulted fault))) shows tells = record {
      done = λ e. absurd (let is = tells.0 in omega (arith, is, e));
      faulted = λ e. (fault, has_ended (Faulted fault) shows (fault_line fault ∷ []) tells.1);
      spent = λ e. absurd (let is = tells.0 in omega (arith, is, e));
      refused = λ e. absurd (let is = tells.0 in omega (arith, is, e));
      silent = silent;
      only = inr (inl tells.0);
    }
    ran None shows tells = record {
      done = λ e. absurd (let is = tells.0 in omega (arith, is, e));
      faulted = λ e. absurd (let is = tells.0 in omega (arith, is, e));
      spent = λ e. runs_on shows tells.1;
      refused = λ e. absurd (let is = tells.0 in omega (arith, is, e));
      silent = silent;
      only = inr (inr (inl tells.0));
    }

    shows_stop : (ended : Option Stop) → ShowsSo ((runs run.settings.limits.frames run.settings.limits.cells run.settings.steps run.settings.stats).outcome (subject (runs run.settings.limits.frames run.settings.limits.cells run.settings.steps run.settings.stats) c.passes c.second c.files_before.holds run.entries run.source made makes run.values)) ended told output → ShowsStop ended
    shows_stop None shows = shows
    shows_stop (Some (Finished end)) shows = shows
    shows_stop (Some (Trapped trap)) shows = absurd shows

  -- the list made this program
  after : (made : Prog) (makes : Makes true c.passes run.entries run.source made)
      → AfterEmission Image status made (IsDoneUnless status c ((runs run.settings.limits.frames run.settings.limits.cells run.settings.steps run.settings.stats).outcome (subject (runs run.settings.limits.frames run.settings.limits.cells run.settings.steps run.settings.stats) c.passes c.second c.files_before.holds run.entries run.source made makes run.values)))
      → ComesAsSource status c run
  after made makes emitted =
      ⊎_elim (λ long. too_large (inr (made, makes, subst (λ (l : Limits). ¬ IsWithin made l) (limits_same emitted.0 run.settings.limits emitted.1.0 emitted.1.1) long.0)) long.1)
      (λ fits. let done = fits.1 run.written in ran made makes done.told done.output done.took done.ended (shows_stop made makes done.told done.output done.took done.ended done.shows) done.says)
      emitted.2

  pub RunIsCorrect-promised : ComesAsSource status c run
  RunIsCorrect-promised =
      ⊎_elim exhausted (⊎_elim stops (λ made. after made.0 made.1 made.2))
      (promises.does Asked reads run.tree (subst (λ (holds : Option FileMap). Linked holds run.path run.tree) (sym run.told) run.linked) run.source run.values run.entries run.numbered run.accepted run.spelled
      (subst (λ (holds : Option FileMap). IsProfileAt c.second holds run.entries) (sym run.told) run.profiled))
