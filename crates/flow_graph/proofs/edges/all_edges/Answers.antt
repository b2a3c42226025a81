use Rattle.std.proofs.Common.{arith}
use Rattle.flow_graph.specs.declared.branches.Branches.TheVariants.{Nowhere}
use Rattle.flow_graph.specs.Graph.{edges_from}
use Rattle.flow_graph.proofs.PointEdges.{edges_turn}
use Rattle.flow_graph.proofs.edges.all_edges.Goals as goal

pub loop-point-preserved : goal.loop-point-preserved
loop-point-preserved c = λ code are.
    edges_turn code c.args.rows.now c.args.sites.now c.loop-point.point Nowhere c.index-sites-point.result c.loop-point.edges c.push_edges_at.new.edges (edges_from code 0 c.args.sites.now)
    are (omega arith) (omega arith) c.index-sites-point.is c.in_ok-push_edges_at.ensures (c.loop-point.invariant code are)
