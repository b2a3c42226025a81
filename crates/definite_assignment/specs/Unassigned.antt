-- Locations that an item reads and some walk to it doesn't assign.
use Rattle.std.specs.Prelude.{◌≡◌, ℕ, ◌<◌, ◌++◌, List, ◌∷◌, All, Some, slice_get}
use Rattle.std.specs.List.{Contains}
use Rattle.bril_tree.specs.Assigned.{IsMaybeUnassigned}
use Rattle.bril_tree.specs.Operand.{Location, Variable, Shadow, reads_of}
use Rattle.bril_tree.specs.declared.numbered.Instr.{Instr}
use Rattle.bril_tree.specs.declared.numbered_function.Func.{Func}

-- the variable of a location, which is itself or its shadow
abbrev pub variable_of : Location → ℕ
variable_of (Variable x) = x
variable_of (Shadow x) = x

-- The item at the point reads a location that some walk to it doesn't assign.
pub record ReadsUnassigned (f : Func) (point : ℕ) : Type 0 where
  pub item : Instr
  pub here : slice_get f.code point ≡ Some item
  pub location : Location
  pub reads : Contains (reads_of item) location
  pub maybe : IsMaybeUnassigned f.code f.args location point

-- The item at the point is the first such item, and the variable is that of the first such location.
pub record IsFirstUnassigned (f : Func) (point variable : ℕ) : Type 0 where
  pub item : Instr
  pub here : slice_get f.code point ≡ Some item
  pub earlier : List Location
  pub location : Location
  pub later : List Location
  pub reads : reads_of item ≡ earlier ++ location ∷ later
  pub is : variable_of location ≡ variable
  pub maybe : IsMaybeUnassigned f.code f.args location point
  pub others : All (λ other. ¬ IsMaybeUnassigned f.code f.args other point) earlier
  pub least : (before : ℕ) → before < point → ¬ ReadsUnassigned f before
