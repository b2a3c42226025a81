use Rattle.trace_laws.proofs.lemmas.refinement.Attempting.{traces-give_back}
use Rattle.trace_laws.proofs.refinement.laws.traces_give_back.Goals as goal

pub returns : goal.returns
returns c = traces-give_back
