use Rattle.ssa_build.proofs.lemmas.operands.Needed.{left-needed}
use Rattle.ssa_build.proofs.operands.laws.left_gets_are_needed.Goals as goal

pub returns : goal.returns
returns c = left-needed
