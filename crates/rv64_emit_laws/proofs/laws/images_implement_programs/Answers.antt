use Rattle.rv64_emit_laws.proofs.Theorem.{images_implement_programs}
use Rattle.rv64_emit_laws.proofs.laws.images_implement_programs.Goals as goal

pub returns : goal.returns
returns c = images_implement_programs
