-- The items are few.
use Rattle.bril_tree.proofs.Sizes.{counted-size}
use Rattle.image_runs.proofs.demo.counts_of.Goals as goal

pub size-requires : goal.size-requires
size-requires c = counted-size c.args.program.now c.requires
