use Rattle.bril_tree.proofs.Refinement.{Refines-trans}
use Rattle.bril_tree.proofs.laws.refines_on.Goals as goal

pub returns : goal.returns
returns c = Refines-trans
