-- The locations of a function, its variables and their shadows, that a walk assigned.
use Rattle.std.specs.Prelude.{◌≡◌, ℕ, Bool, true, false, List, [], ◌∷◌, ◌++◌, map, Option, Some, None, slice_get, slice_index}
use Rattle.std.specs.List.{Contains, range_with_len}
use Rattle.bril_tree.specs.declared.numbered.Instr.{Instr}
use Rattle.bril_tree.specs.declared.numbered.Instr.TheVariants.{Label, Const, Act}
use Rattle.bril_tree.specs.declared.operation.Op.{Op}
use Rattle.bril_tree.specs.declared.operation.Op.TheVariants as op
use Rattle.bril_tree.specs.Edge.{Branch}
use Rattle.bril_tree.specs.FunctionForm.{listed}
use Rattle.bril_tree.specs.Operand.{Location, Variable, Shadow}
use Rattle.bril_tree.specs.Sites.{Change, Opens, Closes, Keeps, change_of, without_newest}
use Rattle.bril_tree.specs.Walk.{IsWalk, end_of}

-- what was assigned, and what had been at each open `speculate`, the newest first
pub record Assigned : Type 0 where
  pub locations : List Location
  pub saved : List (List Location)

-- the locations that an operation assigns: `set` the shadow of its first argument, the others their destination
abbrev pub operation_assigns : Op → Option ℕ → List ℕ → List Location
operation_assigns op.Set dest args = Shadow (slice_index args 0) ∷ []
operation_assigns _ dest args = map Variable (listed dest)

abbrev pub assigns_of : Instr → List Location
assigns_of (Label l) = []
assigns_of (Const dest ty value) = Variable dest ∷ []
assigns_of (Act dest ty operation args funcs labels) = operation_assigns operation dest args

abbrev pub assigns_at : Option Instr → List Location
assigns_at None = []
assigns_at (Some item) = assigns_of item

-- the newest of the saved sets; what is there where none was saved
abbrev pub newest_saved : List Location → List (List Location) → List Location
newest_saved locations [] = locations
newest_saved locations (newest ∷ older) = newest

-- a `commit` keeps what was assigned, an abort puts back what had been at its `speculate`
abbrev pub locations_closed : Bool → Assigned → List Location
locations_closed true a = newest_saved a.locations a.saved
locations_closed false a = a.locations

abbrev pub closed : Bool → Assigned → Assigned
closed aborts a = record { locations = locations_closed aborts a; saved = without_newest a.saved }

abbrev pub assigned_changed : Change → List Location → Bool → Assigned → Assigned
assigned_changed Opens locations aborts a = record { locations = a.locations; saved = a.locations ∷ a.saved }
assigned_changed Closes locations aborts a = closed aborts a
assigned_changed Keeps locations aborts a = record { locations = locations ++ a.locations; saved = a.saved }

-- what is assigned behind a branch, from what is before it
abbrev pub assigned_behind : List Instr → Branch → Assigned → Assigned
assigned_behind code branch a = assigned_changed (change_of code branch) (assigns_at (slice_get code branch.from)) branch.aborts a

-- what a walk assigned, in a function of so many arguments, which are assigned at its start
abbrev pub assigned_of : List Instr → ℕ → List Branch → Assigned
assigned_of code args [] = record { locations = map Variable (range_with_len 0 args); saved = [] }
assigned_of code args (branch ∷ walk) = assigned_behind code branch (assigned_of code args walk)

-- Some walk leads to the point on which the location isn't assigned.
pub record IsMaybeUnassigned (code : List Instr) (args : ℕ) (location : Location) (point : ℕ) : Type 0 where
  pub walk : List Branch
  pub is : IsWalk code walk
  pub ends : end_of walk ≡ point
  pub lacks : ¬ Contains (assigned_of code args walk).locations location
