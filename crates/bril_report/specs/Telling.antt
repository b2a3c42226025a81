-- What is done to the two outputs of a command.
use Rattle.std.specs.Prelude.{ℕ, ◌≡◌, List}
use Rattle.bril_outside.specs.Sink.{SinkSeen}
use Rattle.bril_report.specs.Told.{Tells}
use Rattle.bril_report.specs.declared.outputs.Outputs.{Outputs}

-- Something is told on the error output, in pieces of which each is one put, so that P holds of it and of what was put on the output.
-- Both stay on their sinks.
pub record Telling {O E : Type 0} (out_seen : O → SinkSeen) (err_seen : E → SinkSeen) (P : List (List ℕ) → SinkSeen → SinkSeen → Type 0) (old new : Outputs O E) : Type 0 where
  pub same_output : new.out.ghost_name ≡ old.out.ghost_name
  pub told : List (List ℕ)
  pub does : P told (out_seen old.out.now) (out_seen new.out.now)
  pub tells : Tells err_seen old.err told new.err
