use Rattle.bril_tree.proofs.Named.{operation_is_named}
use Rattle.bril_tree.proofs.laws.operations_are_named.Goals as goal

pub returns : goal.returns
returns c = operation_is_named
