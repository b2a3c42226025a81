-- What a run of an image that implements a program leaves.
use Rattle.std.proofs.Common.{◌≡◌, ℕ, Bool, true, false, List, [], length, Option, Some, None, refl, sym, ap, ◌∙◌, subst, inl, ⊎_elim, true≢false}
use Rattle.std.specs.Option.{option_map}
use Rattle.bril_outside.specs.Sink.{SinkSeen, amount_after, joined}
use Rattle.bril_tree.specs.Run.{FitMain}
use Rattle.bril_tree.specs.declared.limits.End.{End}
use Rattle.bril_tree.specs.declared.limits.Limits.{Limits}
use Rattle.bril_tree.specs.declared.program.Prog.{Prog}
use Rattle.bril_tree.specs.declared.value.Value.{Value}
use Rattle.rv64_image_laws.proofs.Endings.{shown, failures_counted}
use Rattle.rv64_image_laws.specs.Implements.{Implements, ImplementsRun, image_after}
use Rattle.rv64_image_laws.specs.Shown.{ProgramShows}
use Rattle.rv64_machine.specs.MachineView.{state_of}
use Rattle.rv64_machine.specs.StepAnswers.{Ran, RunFailed, Reached, puts_by, reached_after, unprinted}
use Rattle.rv64_machine.specs.declared.answer.RunAnswer.TheVariants as run
use Rattle.rv64_machine.specs.declared.machine.Machine.{Machine}
use Rattle.rv64_words.specs.State.{State, Finished, Trapped}
use Rattle.rv64_words.specs.declared.image.GuardAt.{GuardAt}
use Rattle.rv64_words.specs.declared.image.Image.{Image}
use Rattle.image_runs.proofs.Pieces.{all_put, printed_at, reached, some_put, stopped_at}
use Rattle.image_runs.specs.Machines.{IsFresh}
use Rattle.bril_commands.proofs.Running.{finished_one}
use Rattle.bril_commands.proofs.WordPieces.{joined-words}
use Rattle.bril_commands.specs.Outcome.{ShowsPut, ShowsPartly}
use Rattle.bril_commands.specs.Stats.{stats_told}
use Rattle.bril_commands.specs.commands.Run.{ShowsRun, Executes, executed, pieces_within}

no_trapped : (ended : Option End) (trap : _) → Some (Trapped trap) ≡ option_map Finished ended → ⊥
no_trapped None trap e = cc
no_trapped (Some end) trap e = cc

-- what was printed isn't told
told_unprinted : (stats : Bool) (p : Prog) (guards : List GuardAt) (t : State) → stats_told stats p guards (unprinted t) ≡ stats_told stats p guards t
told_unprinted true p guards t = refl
told_unprinted false p guards t = refl

module _ (image : Image) (p : Prog) (limits : Limits) (values : List Value) (implements : Implements image p limits) (fits : FitMain p values) (words : ℕ) where
  run_of : ImplementsRun implements.homes image p limits values
  run_of = implements.implements.runs values fits

  -- the pieces that the words print
  pieces : List (List ℕ)
  pieces = pieces_within image limits values words

  -- what the machine shows holds of the program
  shows_at : (ended : Option End) → (image_after image limits values words).stopped ≡ option_map Finished ended → ShowsRun p limits values words ended (joined pieces)
  unfolding pieces
  shows_at ended ends =
      let there = shown implements.homes image p limits values run_of words in
      let same : there.0 ≡ ended = finished_one there.0 ended (sym there.1 ∙ ends) in
      let printed = sym (joined-words image limits values words) in
      record {
        machine = record { image = image; implements = implements; ends = ends; prints = printed };
        program = subst (λ bytes. ProgramShows p limits values words ended bytes) printed (subst (λ (e : Option End). ProgramShows p limits values words e (image_after image limits values words).printed) same there.2);
      }

  -- and this is told of it
  executes_at : (stats : Bool) (ended : Option End) → (image_after image limits values words).stopped ≡ option_map Finished ended → Executes p limits values words stats ended (stats_told stats p image.guards (image_after image limits values words)) pieces
  unfolding pieces shows_at
  executes_at stats ended ends = record {
    shows = shows_at ended ends;
    pieces = refl;
    tells = record {
      lines = refl;
      guards = implements.implements.guards;
      counts = λ n end is final. failures_counted implements.homes image p limits values run_of n words end (Finished end) final (ends ∙ ap (option_map Finished) is);
    };
  }

  module _ (m : Machine) (fresh : IsFresh m image limits values) (m' : Machine) (s t : SinkSeen) where
    -- the machine ended so, or goes on, and its counts were told
    pub whole : (ended : Option End) → (reached_after m words).stopped ≡ option_map Finished ended → Reached (reached_after m words) (puts_by m words) m m' s t
        → (stats : Bool) → ShowsPut (executed p limits values words stats) ended (stats_told stats p image.guards (state_of m')) s t
    unfolding pieces
    whole ended ends ran stats =
        let told : stats_told stats p image.guards (state_of m') ≡ stats_told stats p image.guards (image_after image limits values words) =
        ap (stats_told stats p image.guards) ran.became.state ∙ told_unprinted stats p image.guards (reached_after m words)
        ∙ ap (stats_told stats p image.guards) (reached image limits values words m fresh words) in
        record {
          output = pieces;
          shows = subst (λ (ps : List (List ℕ)). Executes p limits values words stats ended ps pieces) (sym told) (executes_at stats ended (stopped_at image limits values words m fresh (option_map Finished ended) ends));
          puts = all_put image limits values words m fresh m' s t ran;
        }

    -- what was printed was counted
    pub counted : (ended : Option End) → (reached_after m words).stopped ≡ option_map Finished ended → Reached (reached_after m words) (puts_by m words) m m' s t
        → (printed : List (List ℕ)) × ((executes : Executes p limits values words false ended [] printed) × ((state_of m').done ≡ (image_after executes.shows.machine.image limits values words).done)) × (t.amount ≡ amount_after s.amount (length (joined printed)))
    unfolding pieces executes_at shows_at
    counted ended ends ran = (
      pieces,
      (
        executes_at false ended (stopped_at image limits values words m fresh (option_map Finished ended) ends),
        ap (λ (u : State). u.done) ran.became.state ∙ ap (λ (u : State). u.done) (reached image limits values words m fresh words),
      ),
      ran.printed.took.took.amount ∙ ap (λ bytes. amount_after s.amount (length bytes)) (sym (printed_at image limits values words m fresh words)),
    )

    pub no_trap : (trap : _) → Ran (run.Trap trap) words m m' s t → ⊥
    no_trap trap ran =
        let there = shown implements.homes image p limits values run_of words in
        no_trapped there.0 trap (sym ran.0 ∙ (ap (λ (u : State). u.stopped) (reached image limits values words m fresh words) ∙ there.1))

    by_print : RunFailed words m m' s t → (stats : Bool) → ShowsPartly (executed p limits values words stats) s t
    unfolding pieces
    by_print failed stats =
        let there = shown implements.homes image p limits values run_of words in
        record {
          ended = there.0;
          told = stats_told stats p image.guards (image_after image limits values words);
          output = pieces;
          shows = executes_at stats there.0 there.1;
          took = inl (some_put image limits values words m fresh m' s t failed);
        }

    pub partly : (stats : Bool) → Ran run.WriteFault words m m' s t → ShowsPartly (executed p limits values words stats) s t
    partly stats ran = ⊎_elim (λ failed. absurd (true≢false (sym failed.failed_before ∙ fresh.sound))) (λ failed. by_print failed stats) ran
