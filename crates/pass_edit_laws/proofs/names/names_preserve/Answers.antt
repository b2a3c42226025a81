use Rattle.pass_edit_laws.proofs.lemmas.names.Preserving as proof
use Rattle.pass_edit_laws.proofs.names.names_preserve.Goals as goal

pub returns : goal.returns
returns g c = proof.names_preserving g.M.PlannedByNames.names
