-- The location that a place names.
use Rattle.bril_tree.specs.declared.place.Place.{Place}
use Rattle.bril_tree.specs.declared.place.Place.TheVariants as place
use Rattle.bril_tree.specs.Operand.{Location, Variable, Shadow}

abbrev pub location_of : Place → Location
location_of (place.Var x) = Variable x
location_of (place.Shadow x) = Shadow x
