use Rattle.rv64_emit_laws.proofs.Theorem.{images_meet_items}
use Rattle.rv64_emit_laws.proofs.laws.images_meet_items.Goals as goal

pub returns : goal.returns
returns c = images_meet_items
