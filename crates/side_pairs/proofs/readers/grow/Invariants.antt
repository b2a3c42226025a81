use Rattle.std.proofs.Common.{◌≡◌, ℕ, length}
use Rattle.side_pairs.specs.Readers.{readers_at}
use Rattle.side_pairs.proofs.readers.grow.Given as goal

abbrev pub invariant-loop-place : goal.invariant-loop-place
invariant-loop-place l = record {
  long : length l.readers.items ≡ l._place;
  same : (location : ℕ) → readers_at l.readers.items location ≡ readers_at l.fn.readers.items location;
}
