use Rattle.bril_tree.proofs.Branches.{label_within}
use Rattle.bril_interpreter.proofs.interp.Interp.jump.Goals as goal

pub invariant_of-self : goal.invariant_of-self
invariant_of-self c =
    let kept = c.self.invariant in
    rw c.go_to.ensures
    (record {
      counted = kept.counted;
      frame = record {
        locations = kept.frame.locations;
        saves = kept.frame.saves;
        few_items = kept.frame.few_items;
        point = rw (c.label_point-point.ensures, ← c.self.view_is) (label_within _ _);
      };
      callers = kept.callers;
      functions = kept.functions;
      memory = kept.memory;
    })
