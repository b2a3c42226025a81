use Rattle.ssa_form_laws.proofs.lemmas.form.Having.{keeps-numbers}
use Rattle.ssa_form_laws.proofs.form.laws.ssa_keeps_numbers.Goals as goal

pub returns : goal.returns
returns c = keeps-numbers
