use Rattle.simulation.proofs.Tracks.{Tracks-from_star}
use Rattle.simulation.proofs.star_tracks.Goals as goal

pub returns : goal.returns
returns g c = λ P Q. Tracks-from_star P Q g.R.Relates.related
