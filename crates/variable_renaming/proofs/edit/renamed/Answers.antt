use Rattle.variable_renaming.proofs.Editing.{below-at}
use Rattle.std.proofs.Common.{length}
use Rattle.variable_renaming.proofs.edit.renamed.Goals as goal

pub new_name-requires : goal.new_name-requires
new_name-requires c = below-at (length c.args.names.now) c.args.numbers.now c.loop-x.x-index 0 c.requires c.loop-x-test.true
