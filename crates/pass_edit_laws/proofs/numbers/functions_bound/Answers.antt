use Rattle.pass_edit_laws.proofs.lemmas.numbers.Programs.{functions_bound}
use Rattle.pass_edit_laws.proofs.numbers.functions_bound.Goals as goal

pub returns : goal.returns
returns c = functions_bound
