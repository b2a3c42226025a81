use Rattle.ssa_form_laws.proofs.lemmas.form.Trees.{laid-edits}
use Rattle.ssa_form_laws.proofs.form.laws.laid_trees_are_edits.Goals as goal

pub returns : goal.returns
returns c = laid-edits
