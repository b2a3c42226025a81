use Rattle.flow_graph.proofs.Told.{reach_tells}
use Rattle.side_pairs.proofs.run.run_at.Goals as goal

pub run_behind-requires-clause-reached : goal.run_behind-requires-clause-reached
run_behind-requires-clause-reached c = (reach_tells c.args.code.now c.args.graph.now c.requires.graph c.args.start c.reach.result c.reach.ensures).0 c.if-not-reach.false
