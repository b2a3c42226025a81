use Rattle.trace_laws.proofs.lemmas.refinement.Refines.{traces-refine}
use Rattle.trace_laws.proofs.refinement.laws.traces_refine.Goals as goal

pub returns : goal.returns
returns c = traces-refine
