-- Windows of locations, which are searched at once.
use Rattle.std.specs.Prelude.{◌≡◌, ℕ, ◌+◌, ◌*◌, ◌/◌, ◌%◌, List, true, false, slice_index}
use Rattle.graph_search.specs.Sets.{has_bit}
use Rattle.definite_assignment.specs.Reads.{is_argument}
use Rattle.flow_graph.specs.declared.reads.Access.{Access}

-- the window of a location: of 128 locations in a row the variables are one, and their shadows another
abbrev pub window_of : ℕ → ℕ
window_of location = location / 128 * 2 + location % 2

-- the number of a location in its window
abbrev pub place_of : ℕ → ℕ
place_of location = location / 2 % 64

-- the location with a number in a window
abbrev pub location_in : ℕ → ℕ → ℕ
location_in window k = window / 2 * 128 + k * 2 + window % 2

-- a read, as an access of its location's window
abbrev pub windowed : Access → Access
windowed read = record { item = read.item; location = window_of read.location }

-- the read's location is no argument, and the search of the location found the item that reads it
pub record IsFound (args : ℕ) (words : List ℕ) (read : Access) : Type 0 where
  pub local : is_argument args read.location ≡ false
  pub reached : has_bit (slice_index words read.item) (place_of read.location) ≡ true
