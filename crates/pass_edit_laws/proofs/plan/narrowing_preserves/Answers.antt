use Rattle.pass_edit_laws.proofs.lemmas.plan.Narrowing as narrowing
use Rattle.pass_edit_laws.proofs.plan.narrowing_preserves.Goals as goal

pub returns : goal.returns
returns g c = narrowing.narrowing_preserves g.M.Planned.plan g.M.Narrowed.visited g.M.Narrowed.regular g.M.Narrowed.known
