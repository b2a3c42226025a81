use Rattle.pass_edit_laws.proofs.lemmas.steps.Refinement as refinement
use Rattle.pass_edit_laws.proofs.steps.plan_refines.Goals as goal

pub returns : goal.returns
returns g c = refinement.plan_refines g.M.Planned.plan
