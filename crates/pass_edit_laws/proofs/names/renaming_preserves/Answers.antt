use Rattle.pass_edit_laws.proofs.lemmas.names.Renaming as proof
use Rattle.pass_edit_laws.proofs.names.renaming_preserves.Goals as goal

pub returns : goal.returns
returns g c = proof.renaming_preserving g.M.PlannedByNames.names g.M.Renamed.renamed
