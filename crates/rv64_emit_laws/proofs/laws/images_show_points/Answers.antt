use Rattle.rv64_emit_laws.proofs.Showing.{images_show_points}
use Rattle.rv64_emit_laws.proofs.laws.images_show_points.Goals as goal

pub returns : goal.returns
returns c = images_show_points
