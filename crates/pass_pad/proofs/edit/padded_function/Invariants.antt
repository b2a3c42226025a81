use Rattle.std.proofs.Common.{◌≡◌, ◌∷◌}
use Rattle.bril_tree.specs.Numbered.{nop_item}
use Rattle.pass_pad.proofs.edit.padded_function.Given as goal

abbrev pub invariant-loop-item : goal.invariant-loop-item
invariant-loop-item l = l.code ≡ nop_item ∷ l.yielded
