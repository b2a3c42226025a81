-- Slots and the locations that they are.
use Rattle.std.proofs.Common.{◌≡◌, refl}
use Rattle.bril_tree.specs.Operand.{Location, Variable, Shadow}
use Rattle.slot_code.specs.Flow.{slot_location}
use Rattle.placement_laws.specs.Homes.{slot_of}

pub location_back : (x : Location) → slot_location (slot_of x) ≡ x
location_back (Variable x) = refl
location_back (Shadow x) = refl
