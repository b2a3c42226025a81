use Rattle.std.proofs.Common.{◌≡◌, ◌-◌, ◌<◌, ◌≤◌, length}
use Rattle.std.specs.Prelude.{IsTrue}
use Rattle.bril_tree.specs.Operand.{Variable}
use Rattle.live_sets.specs.Liveness.{is_live}
use Rattle.rv64_emit.proofs.LiveVariables.{AreRowsTo}
use Rattle.rv64_emit.proofs.live_variables.add_variable.Given as goal

abbrev pub invariant-loop-point : goal.invariant-loop-point
invariant-loop-point l = record {
  long : length l.rows.items ≡ length l.initial.rows.items;
  within : l.point ≤ length l.rows.items;
  live : l.point < length l.rows.items → IsTrue (is_live l.live (Variable l.variable) l.point);
  rows : AreRowsTo l.live l.variable l.point l.rows.items;
}

abbrev pub decreases-loop-point : goal.decreases-loop-point
decreases-loop-point l = length l.rows.items - l.point
