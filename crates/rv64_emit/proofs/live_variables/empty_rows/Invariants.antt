use Rattle.std.proofs.Common.{◌≡◌, ℕ, [], length}
use Rattle.rv64_emit.specs.LiveVariables.{row}
use Rattle.rv64_emit.proofs.live_variables.empty_rows.Given as goal

abbrev pub invariant-loop-point : goal.invariant-loop-point
invariant-loop-point l = record {
  long : length l.rows.items ≡ l._point;
  empty : (point : ℕ) → row l.rows.items point ≡ [];
}
