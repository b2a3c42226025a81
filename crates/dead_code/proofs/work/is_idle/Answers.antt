use Rattle.std.proofs.Common.{inr}
use Rattle.flow_graph.proofs.Told.{reach_tells}
use Rattle.dead_code.proofs.work.is_idle.Goals as goal

pub returns-then-reach-clause-busy : goal.returns-then-reach-clause-busy
returns-then-reach-clause-busy c = λ h. inr ((reach_tells c.args._func.now.code c.args.graph.now c.requires.graph c.args.point c.reach.result c.reach.ensures).0 c.if-reach.true)
