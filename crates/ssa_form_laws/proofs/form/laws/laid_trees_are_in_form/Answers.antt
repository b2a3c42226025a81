use Rattle.ssa_form_laws.proofs.lemmas.form.Trees.{laid-in_form}
use Rattle.ssa_form_laws.proofs.form.laws.laid_trees_are_in_form.Goals as goal

pub returns : goal.returns
returns c = laid-in_form
