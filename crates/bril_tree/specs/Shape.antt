-- The shape of an instruction: whether it has a destination, and how many arguments, functions and labels.
use Rattle.std.specs.Prelude.{ℕ, Bool, true, false, not, ◌&&◌, ◌==◌, List, length, Option, position, is_some, if◌then◌else◌}
use Rattle.bril_tree.specs.declared.numbered.Instr.{Instr}
use Rattle.bril_tree.specs.declared.numbered.Instr.TheVariants.{Label, Const, Act}
use Rattle.bril_tree.specs.declared.operation.Op.{Op}
use Rattle.bril_tree.specs.declared.operation.Op.TheVariants as op

-- what an operation has: a destination or none, so many arguments, no function, and so many labels
pub record Shape : Type 0 where
  pub dest : Bool
  pub args : ℕ
  pub labels : ℕ

-- a destination, and so many arguments
abbrev pub gives : ℕ → Shape
gives args = record { dest = true; args = args; labels = 0 }

-- no destination, so many arguments, and so many labels
abbrev pub takes : ℕ → ℕ → Shape
takes args labels = record { dest = false; args = args; labels = labels }

-- The shape of an operation, in a function that returns a value or doesn't. A `call` has any arguments, and a
-- destination or none; a `print` has any arguments: see `is_action_shaped`.
abbrev pub shape_of : Bool → Op → Shape
shape_of returns op.Not = gives 1
shape_of returns op.Id = gives 1
shape_of returns op.Nop = takes 0 0
shape_of returns op.Jmp = takes 0 1
shape_of returns op.Br = takes 1 2
shape_of returns op.Call = takes 0 0
shape_of returns op.Ret = takes (if returns then 1 else 0) 0
shape_of returns op.Print = takes 0 0
shape_of returns op.Alloc = gives 1
shape_of returns op.Free = takes 1 0
shape_of returns op.Store = takes 2 0
shape_of returns op.Load = gives 1
shape_of returns op.CharToInt = gives 1
shape_of returns op.IntToChar = gives 1
shape_of returns op.Get = gives 0
shape_of returns op.Set = takes 2 0
shape_of returns op.Undef = gives 0
shape_of returns op.Speculate = takes 0 0
shape_of returns op.Commit = takes 0 0
shape_of returns op.Guard = takes 1 1
shape_of returns _ = gives 2

abbrev pub same : Bool → Bool → Bool
same true b = b
same false b = not b

abbrev pub fits_shape : Shape → Bool → ℕ → ℕ → ℕ → Bool
fits_shape shape dest args funcs labels = same shape.dest dest && (args == shape.args) && (funcs == 0) && (labels == shape.labels)

abbrev pub is_action_shaped : Bool → Op → Bool → ℕ → ℕ → ℕ → Bool
is_action_shaped returns op.Call dest args funcs labels = (funcs == 1) && (labels == 0)
is_action_shaped returns op.Print dest args funcs labels = not dest && (funcs == 0) && (labels == 0)
is_action_shaped returns operation dest args funcs labels = fits_shape (shape_of returns operation) dest args funcs labels

-- the item has the shape of its operation, in a function that returns a value or doesn't
abbrev pub is_shaped : Bool → Instr → Bool
is_shaped returns (Label l) = true
is_shaped returns (Const dest ty value) = true
is_shaped returns (Act dest ty operation args funcs labels) =
    is_action_shaped returns operation (is_some dest) (length args) (length funcs) (length labels)

-- the first item that doesn't
abbrev pub shape_fault_of : Bool → List Instr → Option ℕ
shape_fault_of returns code = position (λ item. not (is_shaped returns item)) code
