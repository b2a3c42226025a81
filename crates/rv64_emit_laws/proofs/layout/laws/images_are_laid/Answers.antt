use Rattle.rv64_emit_laws.proofs.lemmas.layout.Laid.{laid}
use Rattle.rv64_emit_laws.proofs.layout.laws.images_are_laid.Goals as goal

pub returns : goal.returns
returns c = laid
