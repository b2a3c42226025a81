use Rattle.ssa_build.proofs.lemmas.tree.Standing.{laid-stand}
use Rattle.ssa_build.proofs.tree.laws.laid_items_stand.Goals as goal

pub returns : goal.returns
returns c = laid-stand
