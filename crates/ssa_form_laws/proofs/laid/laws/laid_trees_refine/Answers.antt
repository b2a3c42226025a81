use Rattle.ssa_form_laws.proofs.lemmas.laid.Laid.{trees-refine}
use Rattle.ssa_form_laws.proofs.laid.laws.laid_trees_refine.Goals as goal

pub returns : goal.returns
returns c = trees-refine
