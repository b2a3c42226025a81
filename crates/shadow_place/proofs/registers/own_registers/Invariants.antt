use Rattle.std.proofs.Common.{◌≡◌, map}
use Rattle.std.specs.List.{range_with_len}
use Rattle.shadow_place.specs.Registers.{own_register}
use Rattle.shadow_place.proofs.registers.own_registers.Given as goal

abbrev pub invariant-loop-slot : goal.invariant-loop-slot
invariant-loop-slot l = l.registers.items ≡ map own_register (range_with_len 0 l.slot)
