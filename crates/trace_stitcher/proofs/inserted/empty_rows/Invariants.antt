use Rattle.std.proofs.Common.{◌≡◌, ℕ, [], length}
use Rattle.trace_stitcher.specs.Inserted.{row}
use Rattle.trace_stitcher.proofs.inserted.empty_rows.Given as goal

abbrev pub invariant-loop-row : goal.invariant-loop-row
invariant-loop-row g l = record {
  long : length l.rows.items ≡ l._row;
  empty : (i : ℕ) → row l.rows.items i ≡ [];
}
