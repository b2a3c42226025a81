use Rattle.std.proofs.Common.{◌≡◌, map, take}
use Rattle.ssa_build.specs.code.Items.{read_name}
use Rattle.ssa_build.proofs.code.items.read_names.Given as goal

abbrev pub invariant-loop-x : goal.invariant-loop-x
invariant-loop-x l = l.made ≡ map (read_name l.layout.names.now l.layout.find.now l.now) (take l.x-index l.args)
