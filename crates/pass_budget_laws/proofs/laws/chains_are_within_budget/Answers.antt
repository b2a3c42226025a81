use Rattle.pass_budget_laws.proofs.Chaining.{chains-within_budget}
use Rattle.pass_budget_laws.proofs.laws.chains_are_within_budget.Goals as goal

pub returns : goal.returns
returns g c = chains-within_budget g.P.Pass.meaning
