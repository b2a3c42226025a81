use Rattle.simulation.proofs.Simulation.{Follows-from_simulation}
use Rattle.simulation.proofs.simulation_follows.Goals as goal

pub returns : goal.returns
returns g c = λ P Q. Follows-from_simulation P Q g.R.Relates.related
