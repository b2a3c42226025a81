use Rattle.trace_laws.proofs.Made.{traces-link}
use Rattle.trace_laws.proofs.laws.traces_link.Goals as goal

pub returns : goal.returns
returns c = traces-link
