use Rattle.pass_make.proofs.Taking.{has-tells}
use Rattle.pass_make.proofs.fresh_names.TakenNames.has.Goals as goal

pub returns : goal.returns
returns c =
    has-tells (λ k. k.now) c.args.self.now c.args.name.now c.self.inside.held.keys c.get_index_of.result c.is_some.result c.self.view_is c.get_index_of.ensures.index c.get_index_of.ensures.found c.is_some.ensures
