-- Which locations are live at which points, as a table.
use Rattle.std.specs.Prelude.{◌↔◌, ℕ, Bool, false, IsTrue, List, Option, Some, None, slice_get}
use Rattle.bril_tree.specs.Live.{IsLive}
use Rattle.bril_tree.specs.Operand.{Location}
use Rattle.bril_tree.specs.declared.numbered.Instr.{Instr}
use Rattle.flow_graph.specs.Location.{number_of}
use Rattle.live_sets.specs.Points.{has_point}
use Rattle.live_sets.specs.declared.live.Live.{Live}
use Rattle.live_sets.specs.declared.points.Points.{Points}

abbrev pub has_point_if : Option Points → ℕ → Bool
has_point_if None point = false
has_point_if (Some points) point = has_point points point

-- the point is in the row of the location's number
abbrev pub is_told : List Points → Location → ℕ → Bool
is_told rows x point = has_point_if (slice_get rows (number_of x)) point

-- the table says that the location is live at the point
abbrev pub is_live : Live → Location → ℕ → Bool
is_live live x point = is_told live.rows.items x point

-- The table says of each location exactly at which points it is live, also at points that no walk reaches.
abbrev pub TellsLive : List Instr → Live → Type 0
TellsLive code live = (x : Location) (point : ℕ) → IsTrue (is_live live x point) ↔ IsLive code x point
