use Rattle.side_laws.proofs.lemmas.refinement.Refining.{exits-refine}
use Rattle.side_laws.proofs.laws.side_exits_refine.Goals as goal

pub returns : goal.returns
returns c = exits-refine
