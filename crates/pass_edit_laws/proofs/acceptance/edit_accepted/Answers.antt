use Rattle.pass_edit_laws.proofs.lemmas.acceptance.Edited as edited
use Rattle.pass_edit_laws.proofs.acceptance.edit_accepted.Goals as goal

pub returns : goal.returns
returns g c = edited.edit_accepted g.M.Planned.plan
