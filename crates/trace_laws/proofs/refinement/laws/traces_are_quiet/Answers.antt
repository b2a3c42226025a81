use Rattle.trace_laws.proofs.lemmas.refinement.Quiet.{traces-quiet}
use Rattle.trace_laws.proofs.refinement.laws.traces_are_quiet.Goals as goal

pub returns : goal.returns
returns c = traces-quiet
