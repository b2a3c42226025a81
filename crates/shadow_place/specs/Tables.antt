-- Homes and what is saved, as they are kept.
use Rattle.std.specs.Prelude.{ℕ, Bool, false, List, Option, Some, None, slice_get}
use Rattle.bril_tree.specs.declared.home.Home.{Home}
use Rattle.bril_tree.specs.declared.home.Home.TheVariants.{Frame}
use Rattle.bril_tree.specs.Operand.{Location, Variable, Shadow}
use Rattle.flow_graph.specs.Location.{number_of}
use Rattle.graph_search.specs.Marks.{is_marked}
use Rattle.shadow_place.specs.declared.placed.FunctionHomes.{FunctionHomes}
use Rattle.shadow_place.specs.declared.placed.Placed.{Placed}

abbrev pub home_if : Option Home → Home
home_if None = Frame 0
home_if (Some home) = home

-- the home of a location in a function with these homes
abbrev pub home_of : FunctionHomes → Location → Home
home_of homes (Variable x) = home_if (slice_get homes.variables.items x)
home_of homes (Shadow x) = home_if (slice_get homes.shadows.items x)

-- in a row that may be there
abbrev pub is_marked_if : Option (List Bool) → ℕ → Bool
is_marked_if None number = false
is_marked_if (Some row) number = is_marked row number

-- whether the speculation of a site saves a location in a function with these homes
abbrev pub is_saved_of : FunctionHomes → ℕ → Location → Bool
is_saved_of homes site x = is_marked_if (slice_get homes.saved.items site) (number_of x)

abbrev pub home_in_row : Option FunctionHomes → Location → Home
home_in_row None x = Frame 0
home_in_row (Some homes) x = home_of homes x

abbrev pub is_saved_in_row : Option FunctionHomes → ℕ → Location → Bool
is_saved_in_row None site x = false
is_saved_in_row (Some homes) site x = is_saved_of homes site x

-- the home of a location in the function of a number
abbrev pub home_in : Placed → ℕ → Location → Home
home_in placed func x = home_in_row (slice_get placed.funcs.items func) x

-- whether the speculation of a site saves it there
abbrev pub is_saved_in : Placed → ℕ → ℕ → Location → Bool
is_saved_in placed func site x = is_saved_in_row (slice_get placed.funcs.items func) site x
