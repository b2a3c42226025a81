use Rattle.std.proofs.Common.{◌≡◌, replicate, None}
use Rattle.flow_graph.proofs.search.unvisited.Given as goal

abbrev pub invariant-loop-point : goal.invariant-loop-point
invariant-loop-point l = l.visits.items ≡ replicate l._point None
