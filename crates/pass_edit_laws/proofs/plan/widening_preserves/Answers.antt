use Rattle.pass_edit_laws.proofs.lemmas.plan.Widening as widening
use Rattle.pass_edit_laws.proofs.plan.widening_preserves.Goals as goal

pub returns : goal.returns
returns g c = widening.widening_preserves g.M.Planned.plan g.M.Widened.more
