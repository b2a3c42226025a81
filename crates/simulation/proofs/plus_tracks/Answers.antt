use Rattle.simulation.proofs.Tracks.{Tracks-from_plus}
use Rattle.simulation.proofs.plus_tracks.Goals as goal

pub returns : goal.returns
returns g c = λ P Q. Tracks-from_plus P Q g.R.Relates.related
