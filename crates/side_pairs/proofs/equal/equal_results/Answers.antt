use Rattle.side_pairs.proofs.Typing.{result-tells}
use Rattle.side_pairs.proofs.equal.equal_results.Goals as goal

pub returns : goal.returns
returns c = result-tells c.args.first c.args.second c.same_result.result c.same_result.ensures
