-- The locations of a function, numbered, and the one that an item assigns.
use Rattle.std.specs.Prelude.{ℕ, ◌+◌, ◌*◌, Option, slice_get}
use Rattle.std.specs.Option.{option_map}
use Rattle.bril_tree.specs.Assigned.{assigns_at}
use Rattle.bril_tree.specs.Operand.{Location, Variable, Shadow}
use Rattle.bril_tree.specs.declared.numbered.Instr.{Instr}

-- A variable has an even number, its shadow the next one.
abbrev pub number_of : Location → ℕ
number_of (Variable x) = 2 * x
number_of (Shadow x) = 2 * x + 1

-- the location that the item assigns: the first of those that it assigns, and no item assigns more than one
abbrev pub location_at : Option Instr → Option Location
location_at item = slice_get (assigns_at item) 0

-- its number
abbrev pub number_at : Option Instr → Option ℕ
number_at item = option_map number_of (location_at item)
