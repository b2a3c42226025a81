use Rattle.ssa_laws.proofs.lemmas.layout.Refines.{laid-refine}
use Rattle.ssa_laws.proofs.layout.laws.laid_code_refines.Goals as goal

pub returns : goal.returns
returns c = laid-refine
