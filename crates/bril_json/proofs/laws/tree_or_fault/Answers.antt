use Rattle.bril_json.proofs.Sources.{one_fault, no_fault, tree_or_fault}
use Rattle.bril_json.proofs.laws.tree_or_fault.Goals as goal

pub returns : goal.returns
returns c = record { one = one_fault; never_both = no_fault; either = tree_or_fault }
