use Rattle.std.proofs.Common.{inl, inr, ⊎_elim}
use Rattle.flow_graph.proofs.Told.{reach_tells}
use Rattle.coalesce.proofs.lemmas.meaning.Linking.{copy-links}
use Rattle.coalesce.proofs.classes.Classes.look_at_point.Goals as goal

pub look_at-requires-clause-linked : goal.look_at-requires-clause-linked
look_at-requires-clause-linked c = copy-links c.args.related.func.now c.args.point c.args.item.now ((reach_tells c.args.related.func.now.code c.args.related.graph.now c.requires.graph c.args.point c.reach.result c.reach.ensures).0 c.if-not-reach.false) c.requires.here

pub returns-clause-within : goal.returns-clause-within
returns-clause-within c = λ e.
    ⊎_elim inl (λ within. inr ((reach_tells c.args.related.func.now.code c.args.related.graph.now c.requires.graph c.args.point c.reach.result c.reach.ensures).0 c.if-not-reach.false, within)) (c.in_ok-look_at.ensures.within e)
