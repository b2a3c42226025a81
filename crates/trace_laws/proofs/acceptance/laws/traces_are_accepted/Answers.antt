use Rattle.trace_laws.proofs.lemmas.acceptance.Accepted.{traces-accepted}
use Rattle.trace_laws.proofs.acceptance.laws.traces_are_accepted.Goals as goal

pub returns : goal.returns
returns c = traces-accepted
