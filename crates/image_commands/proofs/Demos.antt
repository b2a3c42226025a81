-- What is shown of the demo's run says it of its source.
use Rattle.std.proofs.Common.{◌≡◌, ℕ, ◌<◌, ◌^◌, refl, subst, sym, false, List, [], Option, Some, None}
use Rattle.std.specs.List.{AllZip}
use Rattle.bril_outside.specs.Files.{FileMap}
use Rattle.bril_outside.specs.Sink.{SinkSeen}
use Rattle.bril_demo.proofs.Acceptance.{demo_takes_nothing}
use Rattle.bril_demo.specs.Demo.{demo_tree}
use Rattle.bril_profile.specs.declared.profile.Entry.{Entry}
use Rattle.bril_report.specs.declared.status.Status.{Status}
use Rattle.bril_tree.specs.Accepted.{IsAccepted}
use Rattle.bril_tree.specs.Numbered.{Numbered}
use Rattle.bril_tree.specs.Run.{FitMain, Suits}
use Rattle.bril_tree.specs.declared.limits.End.{End}
use Rattle.bril_tree.specs.declared.limits.End.TheVariants.{Ended, Faulted}
use Rattle.bril_tree.specs.declared.limits.Limits.{Limits}
use Rattle.bril_tree.specs.declared.program.Prog.{Prog}
use Rattle.bril_commands.proofs.Running.{run_shows}
use Rattle.bril_commands.proofs.Works.{Works-as}
use Rattle.bril_commands.specs.Command.{AreLimitsOf, ImageFor, Subject}
use Rattle.bril_commands.specs.Driver.{subject}
use Rattle.bril_commands.specs.Outcome.{Works}
use Rattle.bril_commands.specs.PassList.{PassList, IsMade}
use Rattle.bril_commands.specs.commands.Demo.{DemoSize, DemoShows, MadeRuns, SourceRuns, demo_cells, demo_frames, demo_words, demonstrated, demonstrates, size_of}

pub demo_fits : (n : ℕ) (p : Prog) → n < 2 ^ 64 → Numbered (demo_tree n) p → FitMain p []
demo_fits n p small is = subst (λ types. AllZip Suits [] types) (sym (demo_takes_nothing n p small is)) tt

module _ (l : PassList) (entries : List Entry) (p q : Prog) (made : IsMade l entries p q) (accepted : IsAccepted p) (limits : Limits) (are : AreLimitsOf (ImageFor demo_frames demo_cells) limits) (fits : FitMain p []) (functions : ℕ) (named : Option (List ℕ)) (holds : Option FileMap) where
  on : Subject
  on = subject (demonstrates functions) l named holds entries p q made []

  runs_as : (ended : Option End) (printed : List (List ℕ)) (words : ℕ) → MadeRuns q limits ended printed words → SourceRuns on ended printed words
  unfolding on run_shows
  runs_as ended printed words runs = (run_shows l entries p q made accepted limits demo_frames demo_cells are [] fits demo_words false ended [] printed runs.0, runs.1)

  shows_as : (size : DemoSize) (ended : Option End) (told output : List (List ℕ)) → DemoShows size (MadeRuns q limits) ended told output → DemoShows size (SourceRuns on) ended told output
  shows_as size (Some Ended) told output shows = record {
    end = shows.end;
    printed = shows.printed;
    words = shows.words;
    runs = runs_as (Some shows.end) shows.printed shows.words shows.runs;
    line = shows.line;
    tells = shows.tells;
  }
  shows_as size (Some (Faulted fault)) told output shows = shows
  shows_as size None told output shows = record { printed = shows.printed; words = shows.words; runs = runs_as None shows.printed shows.words shows.runs; silent = shows.silent; untold = shows.untold }

  pub demo_works : (size : DemoSize) → size ≡ size_of functions p → (how : Status) (told : List (List ℕ)) (s t : SinkSeen)
      → Works (demonstrated size (MadeRuns q limits)) how told s t → Works (demonstrated (size_of functions p) (SourceRuns (subject (demonstrates functions) l named holds entries p q made []))) how told s t
  unfolding on
  demo_works size is how told s t works =
      let shown = Works-as (demonstrated size (MadeRuns q limits)) (demonstrated size (SourceRuns on)) refl refl (shows_as size) (λ trap told output none. none) (λ output none. none) told s t how works in
      subst (λ z. Works (demonstrated z (SourceRuns on)) how told s t) is shown
