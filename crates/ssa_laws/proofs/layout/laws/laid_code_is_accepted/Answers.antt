use Rattle.ssa_laws.proofs.lemmas.layout.Accepted.{laid-accepted}
use Rattle.ssa_laws.proofs.layout.laws.laid_code_is_accepted.Goals as goal

pub returns : goal.returns
returns c = laid-accepted
