use Rattle.std.proofs.Common.{◌≡◌, map, take}
use Rattle.shadow_place.specs.Registers.{home_from}
use Rattle.shadow_place.proofs.homes.shadow_homes.Given as goal

abbrev pub invariant-loop-number : goal.invariant-loop-number
invariant-loop-number l = l.homes.items ≡ map (home_from l.registers) (take l.number-index l.numbers)
