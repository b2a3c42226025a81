use Rattle.simulation.proofs.Simulation.{Follows-from_plus}
use Rattle.simulation.proofs.plus_follows.Goals as goal

pub returns : goal.returns
returns g c = λ P Q. Follows-from_plus P Q g.R.Relates.related
