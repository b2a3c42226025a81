use Rattle.std.proofs.Common.{◌≡◌, ℕ, ◌≤◌, length, map}
use Rattle.graph_search.specs.Reached.{VisitsAll}
use Rattle.graph_search.specs.Adjacency.{EndsRow}
use Rattle.graph_search.proofs.Visiting.{Goes}
use Rattle.graph_search.proofs.reached.Reached.visit_next.Given as goal

-- what the arcs from the row's end on lead to was visited
abbrev pub invariant-loop-end : goal.invariant-loop-end
invariant-loop-end g l = record {
  nodes : l.self.nodes ≡ l.fn.self.nodes;
  visited : VisitsAll (Goes l.graph.arcs (g.G.Gate.opens l.gate) l.node l.end) l.fn.self.found l.self.found;
  bound : ℕ;
  within : bound ≤ length l.graph.arcs;
  row : EndsRow (map (λ arc. arc.from) l.graph.arcs) l.node bound l.end;
}

abbrev pub decreases-loop-end : goal.decreases-loop-end
decreases-loop-end g l = l.end
