use Rattle.simulation.proofs.Refinement.{Follows-weaker}
use Rattle.simulation.proofs.follows_slower.Goals as goal

pub returns : goal.returns
returns g c = λ P Q. Follows-weaker P Q
