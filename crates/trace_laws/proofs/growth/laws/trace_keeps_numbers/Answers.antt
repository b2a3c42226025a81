use Rattle.trace_laws.proofs.lemmas.growth.Numbers.{trace-keeps_numbers}
use Rattle.trace_laws.proofs.growth.laws.trace_keeps_numbers.Goals as goal

pub returns : goal.returns
returns c = trace-keeps_numbers
