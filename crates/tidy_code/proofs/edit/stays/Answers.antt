use Rattle.tidy_code.proofs.Turns.{stays-tells}
use Rattle.tidy_code.proofs.edit.stays.Goals as goal

pub returns-then-reach : goal.returns-then-reach
returns-then-reach c = stays-tells c.args._func.now.code c.args.graph.now c.requires.graph c.args.point c.reach.result c.is_nop.result c.args.item.now c.reach.ensures c.if-reach.true c.is_nop.ensures
