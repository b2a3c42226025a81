use Rattle.std.proofs.Common.{◌≡◌, [], replicate}
use Rattle.flow_graph.proofs.edges.no_preds.Given as goal

abbrev pub invariant-loop-point : goal.invariant-loop-point
invariant-loop-point l = l.preds.items ≡ replicate l._point []
