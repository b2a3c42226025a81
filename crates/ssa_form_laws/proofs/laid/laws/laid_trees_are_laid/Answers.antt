use Rattle.ssa_form_laws.proofs.lemmas.laid.Laid.{trees-laid}
use Rattle.ssa_form_laws.proofs.laid.laws.laid_trees_are_laid.Goals as goal

pub returns : goal.returns
returns c = trees-laid
