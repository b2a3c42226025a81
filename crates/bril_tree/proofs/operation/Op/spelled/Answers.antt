use Rattle.bril_tree.specs.Spelling.{operation_of}
use Rattle.bril_tree.proofs.operation.Op.spelled.Goals as goal

pub returns : goal.returns
unfolding operation_of
returns c = c.first_named.ensures
