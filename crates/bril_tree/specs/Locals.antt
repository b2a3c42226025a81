-- What the locations of a frame, its variables and their shadows, hold.
use Rattle.std.specs.Prelude.{Option}
use Rattle.bril_tree.specs.declared.numbered_function.Func.{Func}
use Rattle.bril_tree.specs.declared.types.Ty.{Ty}
use Rattle.bril_tree.specs.declared.value.Value.{Value}
use Rattle.bril_tree.specs.Operand.{Location, Variable, Shadow}
use Rattle.bril_tree.specs.State.{Locals, read}
use Rattle.bril_tree.specs.Typing.{variable_type}

-- the type of a location: that of its variable, where it has one
abbrev pub location_type : Func → Location → Option Ty
location_type f (Variable x) = variable_type f.vars x
location_type f (Shadow x) = variable_type f.vars x

-- what a location of a frame holds, where it holds anything
abbrev pub location_value : Locals → Location → Option Value
location_value locations (Variable x) = locations.vars x
location_value locations (Shadow x) = locations.shadows x

-- what is read of a location: what it lacks reads as the int 0
abbrev pub value_at : Locals → Location → Value
value_at locations (Variable x) = read locations.vars x
value_at locations (Shadow x) = read locations.shadows x
