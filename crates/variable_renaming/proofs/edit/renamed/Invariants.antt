use Rattle.std.proofs.Common.{◌≡◌, map, take}
use Rattle.bril_tree.specs.Numbered.{named}
use Rattle.variable_renaming.proofs.edit.renamed.Given as goal

abbrev pub invariant-loop-x : goal.invariant-loop-x
invariant-loop-x l = l.made ≡ map (named l.names) (take l.x-index l.numbers)
