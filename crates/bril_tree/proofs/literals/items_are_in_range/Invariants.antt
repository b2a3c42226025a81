use Rattle.std.proofs.Common.{All, take}
use Rattle.bril_tree.specs.Literals.{IsLiteralInRange}
use Rattle.bril_tree.proofs.literals.items_are_in_range.Given as goal

abbrev pub invariant-loop-item : goal.invariant-loop-item
invariant-loop-item l = All IsLiteralInRange (take l.item-index l.items)
