-- There are few enough items to be counted.
use Rattle.bril_tree.proofs.Sizes.{counted-size}
use Rattle.bril_commands.proofs.commands.check.accepted_line.Goals as goal

pub size-items-requires : goal.size-items-requires
size-items-requires c = counted-size c.args.program.now c.requires
