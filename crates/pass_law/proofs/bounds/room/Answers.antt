use Rattle.bril_tree.proofs.Sizes.{counted-size}
use Rattle.pass_law.proofs.bounds.room.Goals as goal

pub size-requires : goal.size-requires
size-requires c = counted-size c.args.prog.now c.requires
