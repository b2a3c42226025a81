use Rattle.pass_edit_laws.proofs.lemmas.numbers.Programs.{functions_grow}
use Rattle.pass_edit_laws.proofs.numbers.functions_grow.Goals as goal

pub returns : goal.returns
returns c = functions_grow
