-- What is told on an error output, on which nothing more is put once a put on it has failed.
use Rattle.std.specs.Prelude.{ℕ, ◌≡◌, Bool, true, false, List, []}
use Rattle.std.specs.Borrow.{MutBor}
use Rattle.bril_outside.specs.Sink.{SinkSeen, PutAll, PutSome}
use Rattle.bril_report.specs.declared.error_output.ErrorOutput.{ErrorOutput}

-- what is seen of an error output: what is told of its sink, and whether a put on it failed
pub record Heard : Type 0 where
  pub seen : SinkSeen
  pub failed : Bool

-- no put failed yet
abbrev pub sound : SinkSeen → Heard
sound seen = record { seen = seen; failed = false }

-- The pieces were told, in this order, each by one put: all of them, or those up to one whose put failed. Nothing is put after a put
-- that failed, and nothing where there are no pieces.
pub record Told (e : Heard) (pieces : List (List ℕ)) (f : Heard) : Type 0 where
  pub all : e.failed ≡ false → f.failed ≡ false → PutAll e.seen pieces f.seen
  pub some : e.failed ≡ false → f.failed ≡ true → PutSome e.seen pieces f.seen
  pub silent : e.failed ≡ true → f ≡ e
  pub quiet : pieces ≡ [] → f ≡ e

-- ---- by an output

-- what is seen of an output on a sink, of which this is told
abbrev pub heard : {E : Type 0} → (E → SinkSeen) → ErrorOutput E → Heard
heard seen output = record { seen = seen output.sink.now; failed = output.has_failed }

-- the output puts on the sink behind the reference, and no put failed yet
pub record IsSoundOn {E : Type 0} (seen : E → SinkSeen) (sink : MutBor E) (output : ErrorOutput E) : Type 0 where
  pub same_sink : output.sink.ghost_name ≡ sink.ghost_name
  pub begins : heard seen output ≡ sound (seen sink.now)

-- the pieces were told, and the output stays on its sink
pub record Tells {E : Type 0} (seen : E → SinkSeen) (old : ErrorOutput E) (pieces : List (List ℕ)) (new : ErrorOutput E) : Type 0 where
  pub same_sink : new.sink.ghost_name ≡ old.sink.ghost_name
  pub told : Told (heard seen old) pieces (heard seen new)
