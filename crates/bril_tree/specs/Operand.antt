-- What an instruction reads and writes.
use Rattle.std.specs.Prelude.{ℕ, List, [], ◌∷◌, Option, Some, None, map, slice_index}
use Rattle.bril_tree.specs.declared.numbered.Instr.{Instr}
use Rattle.bril_tree.specs.declared.numbered.Instr.TheVariants.{Label, Const, Act}
use Rattle.bril_tree.specs.declared.operation.Op.{Op}
use Rattle.bril_tree.specs.declared.operation.Op.TheVariants as op

-- a variable or its shadow
pub data Location : Type 0 where
  Variable : (x : ℕ) → Location
  Shadow : (x : ℕ) → Location

-- the variable that an instruction assigns, where it assigns one
abbrev pub dest_of : Instr → Option ℕ
dest_of (Label l) = None
dest_of (Const dest ty value) = Some dest
dest_of (Act dest ty operation args funcs labels) = dest

-- how an operation reads its operands: most read each argument, `get` the shadow of its destination, and
-- `set` its second argument alone
pub data Reading : Type 0 where
  ReadsArguments : Reading
  ReadsShadow : Reading
  ReadsSecond : Reading

abbrev pub reading_of : Op → Reading
reading_of op.Get = ReadsShadow
reading_of op.Set = ReadsSecond
reading_of _ = ReadsArguments

-- the shadow of a destination
abbrev pub shadow_of : Option ℕ → List Location
shadow_of None = []
shadow_of (Some x) = Shadow x ∷ []

abbrev pub locations_read : Reading → Option ℕ → List ℕ → List Location
locations_read ReadsArguments dest args = map Variable args
locations_read ReadsShadow dest args = shadow_of dest
locations_read ReadsSecond dest args = Variable (slice_index args 1) ∷ []

-- the locations that an instruction reads
abbrev pub reads_of : Instr → List Location
reads_of (Label l) = []
reads_of (Const dest ty value) = []
reads_of (Act dest ty operation args funcs labels) = locations_read (reading_of operation) dest args
