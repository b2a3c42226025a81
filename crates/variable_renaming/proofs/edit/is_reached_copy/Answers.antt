use Rattle.flow_graph.proofs.Told.{reach_tells}
use Rattle.variable_renaming.proofs.edit.is_reached_copy.Goals as goal

pub returns-clause-within : goal.returns-clause-within
returns-clause-within c = λ h.
    let w = c.is_copy_within.ensures.within h in
    record {
      reached = (reach_tells c.args.func.now.code c.args.graph.now c.requires.graph c.args.point c.reach.result c.reach.ensures).0 c.if-not-reach.false;
      item = c.args.item.now;
      at = c.requires.here;
      x = w.0;
      y = w.1;
      copies = w.2;
      same = w.3;
    }
