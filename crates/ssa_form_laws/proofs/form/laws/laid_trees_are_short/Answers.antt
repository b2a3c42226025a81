use Rattle.ssa_form_laws.proofs.lemmas.form.Trees.{laid-short}
use Rattle.ssa_form_laws.proofs.form.laws.laid_trees_are_short.Goals as goal

pub returns : goal.returns
returns c = laid-short
