-- A run that stopped, or goes on: what was put of it, and what comes of that.
use Rattle.std.proofs.Common.{◌≡◌, ◌⊎◌, ℕ, List, [], Option, Some, None, refl, sym, inl, inr, ⊎_elim, true≢false, ◌∙◌}
use Rattle.bril_outside.specs.Sink.{SinkSeen, Rose, Flushed, HandedOn}
use Rattle.bril_report.specs.Puts.{WritesSome}
use Rattle.bril_tree.specs.declared.limits.End.TheVariants.{Ended, Faulted}
use Rattle.bril_tree.specs.declared.limits.Limits.{Limits}
use Rattle.bril_tree.specs.declared.value.Value.{Value}
use Rattle.rv64_image_laws.specs.Implements.{image_after}
use Rattle.rv64_machine.specs.StepAnswers.{Ran, Reached, puts_by, reached_after}
use Rattle.rv64_machine.specs.declared.answer.RunAnswer.TheVariants as run
use Rattle.rv64_machine.specs.declared.machine.Machine.{Machine}
use Rattle.rv64_words.specs.State.{Stop, Finished, Trapped}
use Rattle.rv64_words.specs.declared.image.Image.{Image}
use Rattle.bril_commands.proofs.WordPieces.{joined-words}
use Rattle.bril_commands.specs.Outcome.{Outcome, ShowsSo, ShowsPartly, TrapsPartly, Works}
use Rattle.bril_commands.specs.commands.Execute.{ShowsExecution, execution}
use Rattle.bril_commands.specs.commands.Run.{pieces_within}
use Rattle.image_runs.proofs.Pieces.{all_put, some_put, stopped_at}
use Rattle.image_runs.specs.Machines.{IsFresh}
use Rattle.bytes_commands.specs.Stopping.{PutsRun, stop_status}

-- ---- any outcome

-- a put failed, or the output failed to hand on
pub run_partly : (o : Outcome) (stopped : Option Stop) (output : List (List ℕ)) (s t : SinkSeen) → ShowsSo o stopped [] output → WritesSome s output t → ShowsPartly o s t ⊎ TrapsPartly o s t
run_partly o None output s t shows took = inl (record { ended = None; told = []; output = output; shows = shows; took = took })
run_partly o (Some (Finished end)) output s t shows took = inl (record { ended = Some end; told = []; output = output; shows = shows; took = took })
run_partly o (Some (Trapped trap)) output s t shows took = inr (record { trap = trap; told = []; output = output; traps = shows; took = took })

-- all was put and handed on
pub run_whole : (o : Outcome) (stopped : Option Stop) (s t u : SinkSeen) → PutsRun o stopped s t → Flushed t u → HandedOn t u → Works o (stop_status stopped o.steps) [] s u
run_whole o None s t u put flushed out = (refl, record { output = put.output; shows = put.shows; took = record { between = t; puts = put.puts; flushed = flushed; out = out } })
run_whole o (Some (Finished Ended)) s t u put flushed out = record { output = put.output; shows = put.shows; took = record { between = t; puts = put.puts; flushed = flushed; out = out } }
run_whole o (Some (Finished (Faulted fault))) s t u put flushed out = record { output = put.output; shows = put.shows; took = record { between = t; puts = put.puts; flushed = flushed; out = out } }
run_whole o (Some (Trapped trap)) s t u put flushed out = record { output = put.output; traps = put.shows; took = record { between = t; puts = put.puts; flushed = flushed; out = out } }

-- all was put, and not handed on
pub run_unflushed : (o : Outcome) (stopped : Option Stop) (s t u : SinkSeen) → PutsRun o stopped s t → Flushed t u → Rose t.faults u.faults → ShowsPartly o s u ⊎ TrapsPartly o s u
run_unflushed o stopped s t u put flushed rose = run_partly o stopped put.output s u put.shows (inr (record { between = t; puts = put.puts; flushed = flushed; rose = rose }))

-- ---- an execution

module _ (image : Image) (limits : Limits) (values : List Value) (words : ℕ) where
  execution_shows : (stopped : Option Stop) → (image_after image limits values words).stopped ≡ stopped → ShowsExecution image values limits.cells words stopped (pieces_within image limits values words)
  execution_shows stopped stops = record { limits = limits; cells_are = refl; stops = stops; prints = sym (joined-words image limits values words); pieces = refl }

  shows_so : (stopped : Option Stop) → (image_after image limits values words).stopped ≡ stopped → ShowsSo (execution image values limits.cells words) stopped [] (pieces_within image limits values words)
  shows_so None stops = (refl, execution_shows None stops)
  shows_so (Some (Finished end)) stops = (refl, execution_shows (Some (Finished end)) stops)
  shows_so (Some (Trapped trap)) stops = (refl, execution_shows (Some (Trapped trap)) stops)

  module _ (m : Machine) (fresh : IsFresh m image limits values) (m' : Machine) (s t : SinkSeen) where
    -- the machine stopped so, or goes on
    pub stopped_so : (stopped : Option Stop) → (reached_after m words).stopped ≡ stopped → Reached (reached_after m words) (puts_by m words) m m' s t → PutsRun (execution image values limits.cells words) stopped s t
    stopped_so stopped stops ran = record {
      output = pieces_within image limits values words;
      shows = shows_so stopped (stopped_at image limits values words m fresh stopped stops);
      puts = all_put image limits values words m fresh m' s t ran;
    }

    -- a write failed
    pub cut_off : Ran run.WriteFault words m m' s t → ShowsPartly (execution image values limits.cells words) s t ⊎ TrapsPartly (execution image values limits.cells words) s t
    cut_off ran =
        ⊎_elim (λ failed. absurd (true≢false (sym failed.failed_before ∙ fresh.sound)))
        (λ failed. run_partly (execution image values limits.cells words) (image_after image limits values words).stopped (pieces_within image limits values words) s t
        (shows_so (image_after image limits values words).stopped refl) (inl (some_put image limits values words m fresh m' s t failed)))
        ran
