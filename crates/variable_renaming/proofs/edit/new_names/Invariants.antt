use Rattle.std.proofs.Common.{◌≡◌, map, take}
use Rattle.bril_tree.specs.Numbered.{named, variable_names}
use Rattle.variable_renaming.proofs.edit.new_names.Given as goal

abbrev pub invariant-loop-x : goal.invariant-loop-x
invariant-loop-x l = l.names ≡ map (named (variable_names l.func.vars)) (take l.x-index l.class)
