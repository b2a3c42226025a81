use Rattle.rv64_image_laws.proofs.PointValues.{values_are_shown}
use Rattle.rv64_image_laws.proofs.laws.values_are_shown.Goals as goal

pub returns : goal.returns
returns c = values_are_shown
