use Rattle.std.proofs.Common.{◌≡◌, ℕ, ◌<◌, ◌≤◌, Some, length}
use Rattle.std.specs.Prelude.{slice_get}
use Rattle.definite_assignment.specs.Reads.{IsOpen}
use Rattle.definite_assignment.specs.Window.{window_of}
use Rattle.flow_graph.specs.declared.reads.Access.{Access}
use Rattle.definite_assignment.proofs.flow.Flow.first_open.Given as goal

-- the first open read of a window so far
abbrev pub invariant-loop-window : goal.invariant-loop-window
invariant-loop-window l = record {
  nodes : l.sets.nodes ≡ l.self.forward.nodes;
  within : l.first ≤ length l.self.reads.items;
  is_open : (read : Access) → slice_get l.self.reads.items l.first ≡ Some read → IsOpen l.self.forward.arcs l.self.args read;
  none : (k : ℕ) (read : Access) → k < l.first → slice_get l.self.reads.items k ≡ Some read → window_of read.location < l.window → ¬ IsOpen l.self.forward.arcs l.self.args read;
}
