use Rattle.simulation.proofs.Refinement.{Follows-trans}
use Rattle.simulation.proofs.follows_on.Goals as goal

pub returns : goal.returns
returns g c = λ P Q O. Follows-trans P Q O
