use Rattle.ssa_form_laws.proofs.lemmas.form.Having.{has-numbers}
use Rattle.ssa_form_laws.proofs.form.laws.ssa_has_numbers.Goals as goal

pub returns : goal.returns
returns c = has-numbers
