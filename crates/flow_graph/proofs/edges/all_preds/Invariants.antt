use Rattle.std.proofs.Common.{take}
use Rattle.flow_graph.specs.Graph.{ArePreds}
use Rattle.flow_graph.proofs.edges.all_preds.Given as goal

abbrev pub invariant-loop-edge : goal.invariant-loop-edge
invariant-loop-edge l = ArePreds l.points (take l.edge-index l.edges) l.preds.items
