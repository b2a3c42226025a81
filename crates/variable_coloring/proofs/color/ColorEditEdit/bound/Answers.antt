use Rattle.bril_tree.proofs.Sizes.{counted-size}
use Rattle.pass_make.proofs.Told.{tells-size}
use Rattle.variable_coloring.proofs.Made.{color-numbers}
use Rattle.variable_coloring.proofs.color.ColorEditEdit.bound.Goals as goal

pub size-requires : goal.size-requires
size-requires c = counted-size c.prog.result.now c.prog.ensures.counted

pub returns-clause-numbers : goal.returns-clause-numbers
returns-clause-numbers c = color-numbers

pub returns-clause-bound : goal.returns-clause-bound
returns-clause-bound c = tells-size c.prog.result.now c.args.prog.now.prog c.prog.ensures.value c.prog.ensures.counted c.size.result c.size.ensures
