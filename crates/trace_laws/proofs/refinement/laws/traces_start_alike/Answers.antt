use Rattle.trace_laws.proofs.lemmas.refinement.Starting.{traces-start_alike}
use Rattle.trace_laws.proofs.refinement.laws.traces_start_alike.Goals as goal

pub returns : goal.returns
returns c = traces-start_alike
