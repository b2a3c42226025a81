use Rattle.ssa_build.proofs.lemmas.operands.Needed.{resolved-solved}
use Rattle.ssa_build.proofs.operands.laws.resolved_tables_are_solved.Goals as goal

pub returns : goal.returns
returns c = resolved-solved
