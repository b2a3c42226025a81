use Rattle.std.proofs.Common.{◌≡◌, ◌<◌, ℕ, [], length}
use Rattle.std.specs.Prelude.{slice_index_or}
use Rattle.ssa_build.specs.code.Rows.{IsRow}
use Rattle.ssa_build.proofs.code.rows.rows_of.Given as goal

abbrev pub invariant-loop-point : goal.invariant-loop-point
invariant-loop-point l = record {
  nodes : l.reached.nodes ≡ l.none.nodes;
  long : length l.rows.items ≡ l.point;
  each : (i : ℕ) → i < l.point → IsRow l.lists.list i (slice_index_or l.rows.items i []);
}
