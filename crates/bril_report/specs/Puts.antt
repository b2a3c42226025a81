-- Pieces that are put on a sink, each by one put.
use Rattle.std.specs.Prelude.{ℕ, ◌≡◌, ◌⊎◌, List, []}
use Rattle.bril_outside.specs.Sink.{SinkSeen, Rose, Flushed, HandedOn, PutAll, PutSome}

-- The pieces were put, each by one put, in this order, and the sink took all of them. It stays as it was where there are none.
pub record PutsAll (s : SinkSeen) (pieces : List (List ℕ)) (t : SinkSeen) : Type 0 where
  pub put : PutAll s pieces t
  pub quiet : pieces ≡ [] → t ≡ s

-- The pieces were put so: all of them, or those up to one whose put failed, and none after it.
abbrev pub Puts : SinkSeen → List (List ℕ) → SinkSeen → Type 0
Puts s pieces t = PutsAll s pieces t ⊎ PutSome s pieces t

-- The pieces were put, and the sink took all of them and then handed on all that it held back. It counted no fault.
pub record WritesAll (s : SinkSeen) (pieces : List (List ℕ)) (t : SinkSeen) : Type 0 where
  pub between : SinkSeen
  pub puts : PutsAll s pieces between
  pub flushed : Flushed between t
  pub out : HandedOn between t

-- The pieces were put, and the sink took all of them and then failed to hand on what it held back.
pub record HoldsBack (s : SinkSeen) (pieces : List (List ℕ)) (t : SinkSeen) : Type 0 where
  pub between : SinkSeen
  pub puts : PutsAll s pieces between
  pub flushed : Flushed between t
  pub rose : Rose between.faults t.faults

-- A put of the pieces failed, the last of them; or the sink took all of them, and failed to hand on what it held back.
abbrev pub WritesSome : SinkSeen → List (List ℕ) → SinkSeen → Type 0
WritesSome s pieces t = PutSome s pieces t ⊎ HoldsBack s pieces t
