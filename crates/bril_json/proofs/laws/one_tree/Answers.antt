use Rattle.bril_json.proofs.Sources.{one_tree}
use Rattle.bril_json.proofs.laws.one_tree.Goals as goal

pub returns : goal.returns
returns c = one_tree
