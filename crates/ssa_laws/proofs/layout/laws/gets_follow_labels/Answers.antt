use Rattle.ssa_laws.proofs.lemmas.layout.Behind.{gets-follow_labels}
use Rattle.ssa_laws.proofs.layout.laws.gets_follow_labels.Goals as goal

pub returns : goal.returns
returns c = gets-follow_labels
