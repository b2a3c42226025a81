use Rattle.simulation.proofs.Refinement.{Follows-refl}
use Rattle.simulation.proofs.follows_itself.Goals as goal

pub returns : goal.returns
returns g c = λ P. Follows-refl P
