use Rattle.std.proofs.Common.{◌≡◌, map, take}
use Rattle.bril_tree.specs.Operand.{dest_of}
use Rattle.ssa_build.specs.code.Names.{or_none}
use Rattle.ssa_build.proofs.code.names.variables_written.Given as goal

abbrev pub invariant-loop-item : goal.invariant-loop-item
invariant-loop-item l = l.variables.items ≡ map (λ item. or_none (dest_of item)) (take l.item-index l.code)
