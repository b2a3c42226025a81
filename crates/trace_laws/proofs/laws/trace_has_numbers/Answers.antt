use Rattle.trace_laws.proofs.Numbers.{has-numbers}
use Rattle.trace_laws.proofs.laws.trace_has_numbers.Goals as goal

pub returns : goal.returns
returns c = has-numbers
