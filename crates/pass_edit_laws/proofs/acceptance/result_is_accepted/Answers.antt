use Rattle.pass_edit_laws.proofs.lemmas.acceptance.Accepted.{program_accepted}
use Rattle.pass_edit_laws.proofs.acceptance.result_is_accepted.Goals as goal

pub returns : goal.returns
returns c = program_accepted
