use Rattle.bril_tree.proofs.Refinement.{Refines-refl}
use Rattle.bril_tree.proofs.laws.refines_itself.Goals as goal

pub returns : goal.returns
returns c = Refines-refl
