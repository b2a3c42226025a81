use Rattle.std.proofs.Common.{◌≡◌, ℕ, ◌↔◌, take}
use Rattle.std.specs.List.{Contains}
use Rattle.graph_search.specs.Path.{IsReached}
use Rattle.graph_search.proofs.reached.Reached.search.Given as goal

-- what paths from the seeds so far reach was found
abbrev pub invariant-loop-seed : goal.invariant-loop-seed
invariant-loop-seed g l = record {
  nodes : l.self.nodes ≡ l.fn.self.nodes;
  found : (node : ℕ) → Contains l.self.found node ↔ IsReached l.graph.arcs (take l.seed-index l.seeds) (g.G.Gate.opens l.gate) node;
}
