-- What an array tells of the definitions that locations have.
use Rattle.std.specs.Prelude.{◌≡◌, ℕ, ◌+◌, ◌*◌, ◌<◌, List, Option, Some, None, slice_index, slice_set}
use Rattle.bril_tree.specs.declared.numbered.Instr.{Instr}
use Rattle.bril_tree.specs.declared.numbered.Instr.TheVariants.{Label, Const, Act}
use Rattle.bril_tree.specs.declared.operation.Op.{Op}
use Rattle.bril_tree.specs.declared.operation.Op.TheVariants as op
use Rattle.bril_tree.specs.Operand.{Location}
use Rattle.flow_graph.specs.Location.{number_of}

-- it has at least what is known; of other locations it may have any number
abbrev pub TellsNow : (Location → Option ℕ) → List ℕ → Type 0
TellsNow known now = (a : Location) (y : ℕ) → known a ≡ Some y → slice_index now (number_of a) ≡ y

-- the locations of a destination have numbers below a bound
abbrev pub IsDestWithin : ℕ → Option ℕ → Type 0
IsDestWithin n None = Unit {0}
IsDestWithin n (Some x) = 2 * x + 1 < n

-- those of the arguments of a `set`
abbrev pub IsSetWithin : ℕ → List ℕ → Type 0
IsSetWithin n args = (2 * slice_index args 0 + 1 < n) × (2 * slice_index args 1 < n)

-- those that an operation assigns or copies
abbrev pub ActsWithin : ℕ → Op → Option ℕ → List ℕ → Type 0
ActsWithin n op.Set dest args = IsSetWithin n args
ActsWithin n _ dest args = IsDestWithin n dest

-- those of an item
abbrev pub IsItemWithin : ℕ → Instr → Type 0
IsItemWithin n (Label l) = Unit {0}
IsItemWithin n (Const dest ty value) = 2 * dest + 1 < n
IsItemWithin n (Act dest ty operation args funcs labels) = ActsWithin n operation dest args

-- the array behind an item with this destination
abbrev pub with_dest : Option ℕ → ℕ → List ℕ → List ℕ
with_dest None written now = now
with_dest (Some x) written now = slice_set now (2 * x) written

-- the array behind a `get`
abbrev pub with_got : Option ℕ → List ℕ → List ℕ
with_got None now = now
with_got (Some x) now = slice_set now (2 * x) (slice_index now (2 * x + 1))
