-- The buffer of an output: what a sink for it keeps, and what it holds in the end.
use Rattle.std.specs.Prelude.{ℕ, ◌≡◌, min, true, List, ◌++◌, length, take, drop, Option, Some}
use Rattle.bril_outside.specs.Sink.{SinkSeen}

-- what a sink for a buffer keeps, by how many puts, as long as it knows that, and how many of them failed
pub record HeldBytes : Type 0 where
  pub held : List ℕ
  pub puts : Option ℕ
  pub faults : ℕ

-- it tells all of it
abbrev pub held_seen : HeldBytes → SinkSeen
held_seen h = record { written = Some h.held; amount = Some (length h.held); puts = h.puts; faults = h.faults; is_out = true }

-- The buffer holds the first of the bytes, as many as have room and as the count says, and is as it was behind them.
pub record HoldsFirst (bytes before after : List ℕ) (count : ℕ) : Type 0 where
  pub counts : count ≡ min (length bytes) (length before)
  pub is : after ≡ take count bytes ++ drop count before
