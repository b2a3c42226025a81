use Rattle.ssa_form_laws.proofs.lemmas.numbers.Whole.{laid-ssa}
use Rattle.ssa_form_laws.proofs.numbers.laws.laid_trees_are_ssa.Goals as goal

pub returns : goal.returns
returns c = laid-ssa
