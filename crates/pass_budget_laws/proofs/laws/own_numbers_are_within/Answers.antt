use Rattle.pass_budget_laws.proofs.Costing.{own-within}
use Rattle.pass_budget_laws.proofs.laws.own_numbers_are_within.Goals as goal

pub returns : goal.returns
returns c = own-within
