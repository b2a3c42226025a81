use Rattle.std.proofs.Common.{◌≡◌, ℕ, [], length}
use Rattle.side_traces.specs.Rows.{row}
use Rattle.side_traces.proofs.rows.empty_rows.Given as goal

abbrev pub invariant-loop-row : goal.invariant-loop-row
invariant-loop-row l = record {
  long : length l.rows.items ≡ l._row;
  empty : (i : ℕ) → row l.rows.items i ≡ [];
}
