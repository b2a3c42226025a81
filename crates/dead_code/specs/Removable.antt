-- Which items are removable: those that only compute what isn't live at the next point, and those that no walk reaches.
use Rattle.std.specs.Prelude.{◌≡◌, ◌⊎◌, ℕ, suc, Bool, true, false, List, Some, slice_get}
use Rattle.std.specs.List.{Contains}
use Rattle.bril_tree.specs.declared.numbered.Instr.{Instr}
use Rattle.bril_tree.specs.declared.numbered.Instr.TheVariants.{Label, Const, Act}
use Rattle.bril_tree.specs.declared.operation.Op.{Op}
use Rattle.bril_tree.specs.declared.operation.Op.TheVariants as op
use Rattle.bril_tree.specs.Assigned.{assigns_of}
use Rattle.bril_tree.specs.Live.{IsLive}
use Rattle.bril_tree.specs.Operand.{Location}
use Rattle.bril_tree.specs.Walk.{IsReached}

-- operations that only assign what they compute, and never fault
abbrev pub only_computes : Op → Bool
only_computes op.Undef = true
only_computes op.Get = true
only_computes op.Set = true
only_computes op.Id = true
only_computes op.CharToInt = true
only_computes op.Add = true
only_computes op.Sub = true
only_computes op.Mul = true
only_computes op.Eq = true
only_computes op.Lt = true
only_computes op.Gt = true
only_computes op.Le = true
only_computes op.Ge = true
only_computes op.Ceq = true
only_computes op.Clt = true
only_computes op.Cgt = true
only_computes op.Cle = true
only_computes op.Cge = true
only_computes op.Not = true
only_computes op.And = true
only_computes op.Or = true
only_computes op.Div = false
only_computes op.PtrAdd = false
only_computes op.IntToChar = false
only_computes op.Nop = false
only_computes op.Jmp = false
only_computes op.Br = false
only_computes op.Call = false
only_computes op.Ret = false
only_computes op.Print = false
only_computes op.Alloc = false
only_computes op.Free = false
only_computes op.Store = false
only_computes op.Load = false
only_computes op.Speculate = false
only_computes op.Commit = false
only_computes op.Guard = false

abbrev pub is_computation : Instr → Bool
is_computation (Label l) = false
is_computation (Const dest ty value) = true
is_computation (Act dest ty operation args funcs labels) = only_computes operation

-- a label or a `nop`, which may stay where no walk leads
abbrev pub is_silent : Instr → Bool
is_silent (Label l) = true
is_silent (Const dest ty value) = false
is_silent (Act dest ty op.Nop args funcs labels) = true
is_silent (Act dest ty _ args funcs labels) = false

-- a computation of what isn't live at the next point: of a destination, or for a `set` of the shadow
pub record IsUnused (code : List Instr) (point : ℕ) (item : Instr) : Type 0 where
  pub computes : is_computation item ≡ true
  pub unused : (x : Location) → Contains (assigns_of item) x → ¬ IsLive code x (suc point)

-- an item other than a label or a `nop`, to which no walk leads
pub record IsIdle (code : List Instr) (point : ℕ) (item : Instr) : Type 0 where
  pub unreached : ¬ IsReached code point
  pub does : is_silent item ≡ false

-- the item at the point is removable
pub record IsRemovable (code : List Instr) (point : ℕ) : Type 0 where
  pub item : Instr
  pub here : slice_get code point ≡ Some item
  pub why : IsUnused code point item ⊎ IsIdle code point item
