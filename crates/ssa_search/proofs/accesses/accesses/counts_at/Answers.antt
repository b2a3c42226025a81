use Rattle.flow_graph.proofs.Told.{reach_tells}
use Rattle.ssa_search.proofs.accesses.accesses.counts_at.Goals as goal

pub returns-clause-reached : goal.returns-clause-reached
returns-clause-reached c = (reach_tells c.args.code.now c.args.graph.now c.requires.graph c.args.point c.reach.result c.reach.ensures).0

pub returns-clause-both : goal.returns-clause-both
returns-clause-both c = λ reached label. (reach_tells c.args.code.now c.args.graph.now c.requires.graph c.args.point c.reach.result c.reach.ensures).1 reached
