use Rattle.bril_text.proofs.Whole.{one_tree}
use Rattle.bril_text.proofs.laws.one_tree.Goals as goal

pub returns : goal.returns
returns c = one_tree
