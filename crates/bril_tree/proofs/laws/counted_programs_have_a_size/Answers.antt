use Rattle.bril_tree.proofs.Sizes.{counted-size}
use Rattle.bril_tree.proofs.laws.counted_programs_have_a_size.Goals as goal

pub returns : goal.returns
returns c = counted-size
