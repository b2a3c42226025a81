use Rattle.side_laws.proofs.Numbers.{has-numbers}
use Rattle.side_laws.proofs.laws.side_has_numbers.Goals as goal

pub returns : goal.returns
returns c = has-numbers
