use Rattle.std.proofs.Common.{◌≡◌, ◌≤◌, Some}
use Rattle.std.specs.Prelude.{slice_get}
use Rattle.flow_graph.specs.declared.reads.Access.{Access}
use Rattle.flow_graph.proofs.AccessRows.{RowDone}
use Rattle.definite_assignment.specs.Window.{IsFound}
use Rattle.definite_assignment.proofs.Lowering.{Met}
use Rattle.definite_assignment.proofs.flow.Flow.first_found.Given as goal

-- the least of those of the row from its end on
abbrev pub invariant-loop-end : goal.invariant-loop-end
invariant-loop-end l = record {
  done : RowDone l.self.rows.list l.window l.end (λ k access. (read : Access) → slice_get l.self.reads.items k ≡ Some read → IsFound l.self.args l.sets.words read → l.least ≤ k);
  below : l.least ≤ l.first;
  met : Met l.self.reads.items (IsFound l.self.args l.sets.words) l.window l.first l.least;
}

abbrev pub decreases-loop-end : goal.decreases-loop-end
decreases-loop-end l = l.end
