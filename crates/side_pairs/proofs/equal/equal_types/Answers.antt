use Rattle.side_pairs.proofs.Typing.{type-tells}
use Rattle.side_pairs.proofs.equal.equal_types.Goals as goal

pub returns : goal.returns
returns c = type-tells c.args.first c.args.second c.same_type.result c.same_type.ensures
