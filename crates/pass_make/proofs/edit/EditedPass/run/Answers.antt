use Rattle.bril_tree.proofs.Sizes.{counted-size}
use Rattle.pass_make.proofs.edit.EditedPass.run.Goals as goal

pub size-requires : goal.size-requires
size-requires g c = counted-size c.prog.result.now c.prog.ensures.counted

pub size-requires-2 : goal.size-requires-2
size-requires-2 g c = counted-size c.prog-2.result.now c.prog-2.ensures.counted
