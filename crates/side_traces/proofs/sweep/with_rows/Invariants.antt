use Rattle.std.proofs.Common.{◌≡◌, ℕ, ◌≤◌, length}
use Rattle.side_traces.specs.Rows.{row, with_rows}
use Rattle.side_traces.proofs.sweep.with_rows.Given as goal

abbrev pub invariant-loop-item : goal.invariant-loop-item
invariant-loop-item l = record {
  count : l.point ≡ length l.yielded;
  long : length l.rows.items ≡ length l.initial.rows.items;
  rest : (i : ℕ) → l.point ≤ i → row l.rows.items i ≡ row l.initial.rows.items i;
  made : l.made ≡ with_rows (row l.initial.rows.items) 0 l.yielded;
}
