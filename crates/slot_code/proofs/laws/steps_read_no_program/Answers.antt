use Rattle.std.proofs.Common.{refl}
use Rattle.slot_code.proofs.laws.steps_read_no_program.Goals as goal

pub returns : goal.returns
returns c = λ p q slots limits s. refl
