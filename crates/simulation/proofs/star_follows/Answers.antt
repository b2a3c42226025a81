use Rattle.simulation.proofs.Simulation.{Follows-from_star}
use Rattle.simulation.proofs.star_follows.Goals as goal

pub returns : goal.returns
returns g c = λ P Q. Follows-from_star P Q g.R.Relates.related
