use Rattle.std.proofs.Common.{◌≡◌, length}
use Rattle.rv64_emit.specs.LiveVariables.{AreLiveRows}
use Rattle.rv64_emit.proofs.live_variables.live_rows.Given as goal

abbrev pub invariant-loop-variable : goal.invariant-loop-variable
invariant-loop-variable l = record {
  long : length l.rows.items ≡ l.points;
  rows : AreLiveRows l.live l.variable l.rows.items;
}
