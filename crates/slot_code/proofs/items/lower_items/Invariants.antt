use Rattle.std.proofs.Common.{◌≡◌, map, take}
use Rattle.slot_code.specs.Lowered.{lowered_item}
use Rattle.slot_code.proofs.items.lower_items.Given as goal

abbrev pub invariant-loop-item : goal.invariant-loop-item
invariant-loop-item l = l.items ≡ map (lowered_item l.func) (take l.item-index l.func.code)
