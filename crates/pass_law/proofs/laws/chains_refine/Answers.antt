use Rattle.pass_law.proofs.Chaining.{chains-refine}
use Rattle.pass_law.proofs.laws.chains_refine.Goals as goal

pub returns : goal.returns
returns g c = chains-refine g.P.Pass.meaning
