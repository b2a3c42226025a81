use Rattle.ssa_form_laws.proofs.lemmas.form.Having.{has-numbers}
use Rattle.braun_ssa.proofs.ssa.SsaEditEdit.bound.Goals as goal

pub returns-clause-numbers : goal.returns-clause-numbers
returns-clause-numbers c = has-numbers
