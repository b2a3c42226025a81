use Rattle.pass_edit_laws.proofs.lemmas.walks.Accepting as accepting
use Rattle.pass_edit_laws.proofs.walks.walks_are_accepted.Goals as goal

pub returns : goal.returns
returns g c = accepting.walks_are_accepted g.M.Planned.plan
