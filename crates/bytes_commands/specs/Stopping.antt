-- How a run of the machine stopped, what was put of it, and its status.
use Rattle.std.specs.Prelude.{ℕ, List, [], Option, Some, None}
use Rattle.std.specs.Option.{option_map}
use Rattle.bril_outside.specs.Sink.{SinkSeen}
use Rattle.bril_report.specs.Puts.{PutsAll}
use Rattle.bril_report.specs.declared.status.Status.TheVariants as status
use Rattle.bril_report.specs.declared.status.Status.{Status}
use Rattle.rv64_words.specs.State.{Stop, Finished, Trapped}
use Rattle.bril_commands.specs.Outcome.{Outcome, ShowsSo, end_status}
use Rattle.bytes_commands.specs.declared.run.Halt.TheVariants as halt
use Rattle.bytes_commands.specs.declared.run.Halt.{Halt}

abbrev pub stop_of : Halt → Stop
stop_of (halt.Finished end) = Finished end
stop_of (halt.Trapped trap) = Trapped trap

-- how it stopped, or that it goes on, for None
abbrev pub stop_seen : Option Halt → Option Stop
stop_seen = option_map stop_of

-- A run stopped so, or goes on for None, nothing is told of it, and the output took all that is put. It may hold some of it back.
pub record PutsRun (o : Outcome) (stopped : Option Stop) (s t : SinkSeen) : Type 0 where
  pub output : List (List ℕ)
  pub shows : ShowsSo o stopped [] output
  pub puts : PutsAll s output t

-- the status of a run of so many words that stopped so, or goes on for None
abbrev pub stop_status : Option Stop → (words : ℕ) → Status
stop_status None words = end_status None words
stop_status (Some (Finished end)) words = end_status (Some end) words
stop_status (Some (Trapped trap)) words = status.Trapped trap
