use Rattle.std.proofs.Common.{◌≡◌, map, take}
use Rattle.bril_tree.specs.Numbered.{named}
use Rattle.bril_names.proofs.unnumbering.names.copied_names.Given as goal

abbrev pub invariant-loop-number : goal.invariant-loop-number
invariant-loop-number g l = l.names ≡ map (named (map g.N.Named.name_of l.table)) (take l.number-index l.numbers)
