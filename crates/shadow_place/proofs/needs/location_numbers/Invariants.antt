use Rattle.std.proofs.Common.{◌≡◌, take}
use Rattle.shadow_place.specs.Spans.{numbers_of}
use Rattle.shadow_place.proofs.needs.location_numbers.Given as goal

abbrev pub invariant-loop-slot : goal.invariant-loop-slot
invariant-loop-slot l = l.numbers.items ≡ numbers_of (take l.slot-index l.slots)
