-- What follows of tables that are made item by item, and of the definitions that stand for others.
use Rattle.std.specs.Prelude.{◌≡◌, ◌⊎◌, ℕ, ◌+◌, List, [], length, Option, Some, slice_get}
use Rattle.bril_tree.specs.declared.numbered.Instr.{Instr}
use Rattle.bril_tree.specs.declared.types.Ty.{Ty}
use Rattle.bril_tree.specs.Assigned.{assigns_at}
use Rattle.bril_tree.specs.Edge.{Branch}
use Rattle.bril_tree.specs.Live.{IsLive}
use Rattle.bril_tree.specs.Operand.{Location}
use Rattle.bril_tree.specs.Sites.{AreSitesSound, sites_of}
use Rattle.bril_tree.specs.Walk.{IsWalk, IsReached}
use Rattle.bril_tree.specs.Membership.{In}
use Rattle.ssa_laws.specs.reaching_definitions.Tables.{AreConsistent, resolve}
use Rattle.ssa_laws.specs.reaching_definitions.Told.{AreTyped, AreWanted, HasTypeOf, IsSolved, LeadToLabels, argument, into_at, table_of}

-- the code of a function with so many arguments, and where its `get`s are
pub record IsTabled (code : List Instr) (args : ℕ) (gets : ℕ → Location → Option ℕ) : Type 0 where
  pub leads : LeadToLabels code
  pub wanted : AreWanted code args gets
  -- what is live at the start is an argument
  pub argued : (a : Location) → IsLive code a 0 → (y : ℕ) × (argument args a ≡ Some y)
  -- what opens a site assigns nothing
  pub opens : (s : ℕ) (walk : List Branch) → IsWalk code walk → In s (sites_of code walk) → assigns_at (slice_get code s) ≡ []

-- the definition is an argument
abbrev pub IsArgument : ℕ → ℕ → Type 0
IsArgument args y = (a : Location) × (argument args a ≡ Some y)

-- Each location that is live at a reached point has a definition by the tables, or a `get` behind the point is one.
abbrev pub TablesTellLive : Type 0
TablesTellLive = (code : List Instr) (args : ℕ) (gets : ℕ → Location → Option ℕ) → IsTabled code args gets
    → (i : ℕ) (a : Location) → IsReached code i → IsLive code a i → (y : ℕ) × ((into_at code args gets i a ≡ Some y) ⊎ (gets i a ≡ Some y))

-- With and without the trivial `get`s, the tables agree along each branch, and each definition is one item's, one `get`'s or
-- one argument's.
abbrev pub TablesAgree : Type 0
TablesAgree = (code : List Instr) (args : ℕ) (gets : ℕ → Location → Option ℕ) → IsTabled code args gets
    → AreConsistent code (table_of code args gets) (IsArgument args)
    × ((find : ℕ → ℕ) → IsSolved code (table_of code args gets) args (args + length code) find → AreConsistent code (resolve (table_of code args gets) find) (IsArgument args))

-- Without the trivial `get`s, the definition that a location has at a reached point by the tables is one of the location's type,
-- where that has one.
abbrev pub TablesKeepTypes : Type 0
TablesKeepTypes = (code : List Instr) (args : ℕ) (gets : ℕ → Location → Option ℕ) (find : ℕ → ℕ) (type_at : Location → Option Ty) (types : ℕ → Option Ty)
    → AreSitesSound code → IsTabled code args gets → IsSolved code (table_of code args gets) args (args + length code) find → AreTyped code (table_of code args gets) args type_at types
    → (i : ℕ) (a : Location) (y : ℕ) → IsReached code i → (resolve (table_of code args gets) find).into i a ≡ Some y → HasTypeOf type_at types y a
