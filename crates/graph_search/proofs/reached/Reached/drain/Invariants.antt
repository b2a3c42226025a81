use Rattle.std.proofs.Common.{◌≡◌, ℕ, ◌-◌, ◌<◌, ◌≤◌, length}
use Rattle.std.specs.Prelude.{slice_index}
use Rattle.std.specs.List.{Contains}
use Rattle.graph_search.specs.Path.{IsReached, Leads}
use Rattle.graph_search.proofs.reached.Reached.drain.Given as goal

-- what arcs lead to from the nodes before the next one was found, and only what paths reach
abbrev pub invariant-loop-next : goal.invariant-loop-next
invariant-loop-next g l = record {
  nodes : l.self.nodes ≡ l.fn.self.nodes;
  next : l.next ≤ length l.self.found;
  closed : (k : ℕ) → k < l.next → (node : ℕ) → Leads l.graph.arcs (g.G.Gate.opens l.gate) (slice_index l.self.found k) node → Contains l.self.found node;
  reached : (node : ℕ) → Contains l.self.found node → IsReached l.graph.arcs l.fn.self.found (g.G.Gate.opens l.gate) node;
  kept : (node : ℕ) → Contains l.fn.self.found node → Contains l.self.found node;
}

abbrev pub decreases-loop-next : goal.decreases-loop-next
decreases-loop-next g l = l.self.nodes - l.next
