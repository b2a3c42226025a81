use Rattle.std.proofs.Common.{subst}
use Rattle.std.specs.Prelude.{IfOk}
use Rattle.bril_tree.specs.Sites.{AreSitesSound}
use Rattle.flow_graph.proofs.graph.Graph.of.Goals as goal

pub returns-clause-sound : goal.returns-clause-sound
returns-clause-sound c = subst (λ x. IfOk c.drawn.result (λ _. AreSitesSound x)) c.as_slice.ensures c.drawn.ensures.sound
