use Rattle.bril_tree.proofs.Arities.{binary_are, unary_are}
use Rattle.bril_tree.proofs.operators.operators_are_operations.Goals as goal

pub returns : goal.returns
returns c = record {
  unary = unary_are;
  binary = binary_are;
}
