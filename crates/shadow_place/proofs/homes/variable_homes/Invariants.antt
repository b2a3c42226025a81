use Rattle.std.proofs.Common.{◌≡◌, map}
use Rattle.std.specs.List.{range_with_len}
use Rattle.shadow_place.specs.Registers.{home_from}
use Rattle.shadow_place.proofs.homes.variable_homes.Given as goal

abbrev pub invariant-loop-x : goal.invariant-loop-x
invariant-loop-x l = l.homes.items ≡ map (home_from l.registers) (range_with_len 0 l.x)
