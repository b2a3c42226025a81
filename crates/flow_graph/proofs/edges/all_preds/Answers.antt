use Rattle.std.proofs.Common.{arith}
use Rattle.bril_tree.specs.declared.edge.Edge.{Edge}
use Rattle.flow_graph.proofs.PointEdges.{preds_turn}
use Rattle.flow_graph.proofs.edges.all_preds.Goals as goal

pub loop-edge-preserved : goal.loop-edge-preserved
loop-edge-preserved c =
    let d : Edge = record { from = 0; leave = 0; to = 0 } in
    preds_turn c.args.points c.args.edges.now c.loop-edge.edge-index d c.loop-edge.preds.items c.push_pred.new.preds.items (omega arith)
    (record { points = c.loop-edge.invariant.points; at = c.loop-edge.invariant.at }) (c.requires c.loop-edge.edge-index d (omega arith)) c.in_ok-push_pred.ensures
