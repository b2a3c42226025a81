-- Rows of marks by the numbers of locations, one row for each point.
use Rattle.std.specs.Prelude.{◌≡◌, ◌⊎◌, ℕ, ◌+◌, ◌-◌, ◌*◌, ◌<◌, nat_lt, if◌then◌else◌, Bool, false, IsTrue, List, [], length, map, replicate, Option, Some, None, slice_get, slice_index_or}
use Rattle.std.specs.List.{Contains}
use Rattle.bril_tree.specs.declared.numbered.Instr.{Instr}
use Rattle.bril_tree.specs.Assigned.{assigns_at}
use Rattle.bril_tree.specs.Operand.{Location}
use Rattle.bril_tree.specs.Sites.{Change, Opens, Closes, Keeps, item_change}
use Rattle.flow_graph.specs.Location.{number_of}
use Rattle.live_sets.specs.Liveness.{is_live}
use Rattle.placement_laws.specs.Open.{LeadsOut}
use Rattle.graph_search.specs.Marks.{is_marked}
use Rattle.shadow_place.specs.declared.analyses.Analyses.{Analyses}

-- The row got the marks of numbers that meet a condition, of each one that has a place there, and kept those that it had.
pub record Adds (P : ℕ → Type 0) (old new : List Bool) : Type 0 where
  pub long : length new ≡ length old
  pub kept : (number : ℕ) → IsTrue (is_marked old number) → IsTrue (is_marked new number)
  pub came : (number : ℕ) → IsTrue (is_marked new number) → IsTrue (is_marked old number) ⊎ P number
  pub all : (number : ℕ) → number < length old → P number → IsTrue (is_marked new number)

-- the row of a point, the empty one where there is none
abbrev pub row_at : List (List Bool) → ℕ → List Bool
row_at rows point = slice_index_or rows point []

-- each row got the marks of its site and of numbers that meet a condition
abbrev pub AddsAll : (ℕ → ℕ → Type 0) → List (List Bool) → List (List Bool) → Type 0
AddsAll P old new = (site : ℕ) → Adds (P site) (row_at old site) (row_at new site)

-- ---- the first rows

-- no mark for each location of so many variables where a site is opened, else the empty row
abbrev pub row_of_change : ℕ → Change → List Bool
row_of_change variables Opens = replicate (2 * variables) false
row_of_change variables Closes = []
row_of_change variables Keeps = []

abbrev pub first_row : ℕ → Instr → List Bool
first_row variables item = row_of_change variables (item_change (Some item) false)

-- for each item
abbrev pub first_rows : ℕ → List Instr → List (List Bool)
first_rows variables code = map (first_row variables) code

-- ---- the marks

-- the site of a level, from 1, among open sites, of which the newest stands first
abbrev pub site_in : ℕ → List ℕ → Option ℕ
site_in level sites = if nat_lt (length sites) level then None else slice_get sites (length sites - level)

-- among those of a point
abbrev pub site_told : ℕ → Option (Option (List ℕ)) → Option ℕ
site_told level None = None
site_told level (Some None) = None
site_told level (Some (Some sites)) = site_in level sites

-- The site of the level is open at the point, whose item assigns the location of the number, which is live at the label.
pub record IsMarkedAt (a : Analyses) (level label point site number : ℕ) : Type 0 where
  pub opened : site_told level (slice_get a.graph.now.sites point) ≡ Some site
  pub location : Location
  pub numbered : number_of location ≡ number
  pub assigns : Contains (assigns_at (slice_get a.func.now.code point)) location
  pub told : IsTrue (is_live a.live.now location label)

-- at one of these points
pub record IsMarkedIn (a : Analyses) (level label : ℕ) (points : List ℕ) (site number : ℕ) : Type 0 where
  pub point : ℕ
  pub there : Contains points point
  pub marked : IsMarkedAt a level label point site number

-- at a point from which a walk, on which the site of the level stays open, leads to a guard that aborts to the label
pub record IsMarkedOut (a : Analyses) (level label site number : ℕ) : Type 0 where
  pub point : ℕ
  pub leads : LeadsOut a.func.now.code level label point
  pub marked : IsMarkedAt a level label point site number

-- for a label before one
pub record IsMarkedBefore (a : Analyses) (level end site number : ℕ) : Type 0 where
  pub label : ℕ
  pub before : label < end
  pub out : IsMarkedOut a level label site number

-- for some label, at a level below one
pub record IsMarkedBelow (a : Analyses) (end site number : ℕ) : Type 0 where
  pub level : ℕ
  pub below : level < end
  pub out : IsMarkedBefore a level (length a.func.now.code + 1) site number
