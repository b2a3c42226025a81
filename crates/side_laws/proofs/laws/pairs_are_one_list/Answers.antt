use Rattle.side_laws.proofs.lemmas.pairs.One.{pairs-are-one_list}
use Rattle.side_laws.proofs.laws.pairs_are_one_list.Goals as goal

pub returns : goal.returns
returns c = pairs-are-one_list
