use Rattle.ssa_form_laws.proofs.lemmas.laid.Accepted.{trees-accepted}
use Rattle.ssa_form_laws.proofs.laid.laws.laid_trees_are_accepted.Goals as goal

pub returns : goal.returns
returns c = trees-accepted
