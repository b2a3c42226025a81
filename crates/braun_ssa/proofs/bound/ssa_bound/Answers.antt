use Rattle.bril_tree.proofs.Sizes.{counted-size}
use Rattle.braun_ssa.proofs.Counting.{bound-told}
use Rattle.braun_ssa.proofs.bound.ssa_bound.Goals as goal

pub size-requires : goal.size-requires
size-requires c = counted-size c.args.prog.now c.requires.counted

pub returns : goal.returns
returns c = bound-told c.args.prog.now c.in_ok-entries.entries c.size.result c.bound_by.result c.requires.counted c.in_ok-entries.ensures c.size.ensures c.bound_by.ensures
