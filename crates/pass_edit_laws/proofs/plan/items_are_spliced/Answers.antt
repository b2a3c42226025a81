use Rattle.pass_edit_laws.proofs.lemmas.plan.Splicing.{items_spliced}
use Rattle.pass_edit_laws.proofs.plan.items_are_spliced.Goals as goal

pub returns : goal.returns
returns g c = items_spliced _
