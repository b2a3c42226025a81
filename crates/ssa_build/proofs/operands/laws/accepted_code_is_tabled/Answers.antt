use Rattle.ssa_build.proofs.lemmas.operands.Accepted.{accepted-tabled}
use Rattle.ssa_build.proofs.operands.laws.accepted_code_is_tabled.Goals as goal

pub returns : goal.returns
returns c = accepted-tabled
