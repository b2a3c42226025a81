-- What an item of code over slots finds in its frame, in a run of an accepted program.
use Rattle.std.proofs.Common.{◌≡◌, ◌≢◌, ℕ, ◌^◌, ◌<◌, ◌≤◌, Bool, true, false, List, [], length, Option, Some, None, ℤ}
use Rattle.std.specs.Prelude.{FitsSigned, is_some, slice_get}
use Rattle.std.specs.Char.{IsScalar}
use Rattle.std.specs.Int.{w32, w64}
use Rattle.std.specs.List.{AllByRecursion}
use Rattle.bril_tree.specs.declared.operators.BinaryOp.{BinaryOp}
use Rattle.bril_tree.specs.declared.operators.BinaryOp.TheVariants as binary
use Rattle.bril_tree.specs.declared.operators.UnaryOp.{UnaryOp}
use Rattle.bril_tree.specs.declared.operators.UnaryOp.TheVariants as unary
use Rattle.bril_tree.specs.declared.types.Base.{Base}
use Rattle.bril_tree.specs.declared.types.Base.TheVariants as base
use Rattle.bril_tree.specs.declared.program.Prog.{Prog}
use Rattle.bril_tree.specs.declared.value.Value.{Value}
use Rattle.bril_tree.specs.declared.value.Value.TheVariants.{Int, Bool as Boolean, Char, Ptr}
use Rattle.bril_tree.specs.Outcome.{block_of}
use Rattle.bril_tree.specs.State.{Locals, Frame}
use Rattle.bril_tree.specs.Typing.{return_type}
use Rattle.bril_tree.specs.Value.{IsInRange}
use Rattle.slot_code.specs.declared.item.Slot.{Slot}
use Rattle.slot_code.specs.declared.item.Slot.TheVariants.{Variable, Shadow}
use Rattle.slot_code.specs.declared.item.SlotItem.{SlotItem}
use Rattle.slot_code.specs.declared.item.SlotItem.TheVariants.{Pass, Constant, Copy, Unary, Binary, Jump, Branch, Call, Return, Print, Alloc, Free, Store, Load, Speculate, Commit, Guard}
use Rattle.slot_code.specs.declared.slots.SlotFunction.{SlotFunction}
use Rattle.slot_code.specs.declared.slots.Slots.{Slots}

-- ---- what variables hold

pub record HoldsInt (locations : Locals) (x : ℕ) : Type 0 where
  pub number : ℤ
  pub is : locations.vars x ≡ Some (Int number)
  pub fits : FitsSigned w64 number

pub record HoldsBool (locations : Locals) (x : ℕ) : Type 0 where
  pub truth : Bool
  pub is : locations.vars x ≡ Some (Boolean truth)

pub record HoldsChar (locations : Locals) (x : ℕ) : Type 0 where
  pub number : ℕ
  pub is : locations.vars x ≡ Some (Char number)
  pub scalar : IsScalar number

pub record HoldsPointer (locations : Locals) (x : ℕ) : Type 0 where
  pub block : ℕ
  pub offset : ℤ
  pub is : locations.vars x ≡ Some (Ptr block offset)
  pub small : block < 2 ^ 32
  pub fits : FitsSigned w32 offset

-- what a slot holds, where it holds anything
abbrev pub slot_value : Locals → Slot → Option Value
slot_value locations (Variable x) = locations.vars x
slot_value locations (Shadow x) = locations.shadows x

pub record HoldsValue (locations : Locals) (slot : Slot) : Type 0 where
  pub value : Value
  pub is : slot_value locations slot ≡ Some value

-- a variable that is printed holds a value of its kind
abbrev pub HoldsKind : Locals → Base → ℕ → Type 0
HoldsKind locations base.Int x = HoldsInt locations x
HoldsKind locations base.Bool x = HoldsBool locations x
HoldsKind locations base.Char x = HoldsChar locations x

-- ---- what items find

abbrev pub UnaryFinds : Locals → UnaryOp → ℕ → Type 0
UnaryFinds locations unary.Not x = HoldsBool locations x
UnaryFinds locations unary.CharToInt x = HoldsChar locations x
UnaryFinds locations unary.IntToChar x = HoldsInt locations x

abbrev pub BinaryFinds : Locals → BinaryOp → ℕ → ℕ → Type 0
BinaryFinds locations binary.Ceq a b = HoldsChar locations a × HoldsChar locations b
BinaryFinds locations binary.Clt a b = HoldsChar locations a × HoldsChar locations b
BinaryFinds locations binary.Cgt a b = HoldsChar locations a × HoldsChar locations b
BinaryFinds locations binary.Cle a b = HoldsChar locations a × HoldsChar locations b
BinaryFinds locations binary.Cge a b = HoldsChar locations a × HoldsChar locations b
BinaryFinds locations binary.And a b = HoldsBool locations a × HoldsBool locations b
BinaryFinds locations binary.Or a b = HoldsBool locations a × HoldsBool locations b
BinaryFinds locations binary.PtrAdd a b = HoldsPointer locations a × HoldsInt locations b
BinaryFinds locations _ a b = HoldsInt locations a × HoldsInt locations b

-- a function of the program returns a value
abbrev pub gives_back : Prog → ℕ → Bool
gives_back p f = is_some (return_type (slice_get p.funcs f))

-- A call finds its arguments, and a function with slots for them, which returns a value where one is taken. Nothing is saved.
pub record CallFinds (p : Prog) (slots : Slots) (f : Frame) (dest : Option ℕ) (function : ℕ) (args : List ℕ) : Type 0 where
  pub callee : SlotFunction
  pub there : slice_get slots.funcs function ≡ Some callee
  pub fits : length args ≤ callee.variables
  pub few : length args ≤ callee.args
  pub holds : AllByRecursion (λ a. HoldsValue f.locations (Variable a)) args
  pub takes : (x : ℕ) → dest ≡ Some x → gives_back p function ≡ true
  pub alone : f.saves ≡ []

module _ (p : Prog) (slots : Slots) (f : Frame) where
  -- a `ret` has a value exactly where its function returns one, and then holds it
  abbrev pub ReturnFinds : Option ℕ → Type 0
  ReturnFinds None = gives_back p f.function ≡ false
  ReturnFinds (Some x) = HoldsValue f.locations (Variable x)

  abbrev pub Finds : SlotItem → Type 0
  Finds Pass = Unit {0}
  Finds (Constant dest value) = IsInRange value × (block_of value ≡ 0)
  Finds (Copy dest from) = HoldsValue f.locations from
  Finds (Unary operation dest operand) = UnaryFinds f.locations operation operand
  Finds (Binary operation dest first second) = BinaryFinds f.locations operation first second
  Finds (Jump to) = Unit {0}
  Finds (Branch condition then_to else_to) = HoldsBool f.locations condition
  Finds (Call dest function args) = CallFinds p slots f dest function args
  Finds (Return value) = ReturnFinds value
  Finds (Print args) = AllByRecursion (λ a. HoldsKind f.locations a.kind a.variable) args
  Finds (Alloc dest count) = HoldsInt f.locations count
  Finds (Free pointer) = HoldsPointer f.locations pointer
  Finds (Store pointer value) = HoldsPointer f.locations pointer × HoldsValue f.locations (Variable value)
  Finds (Load dest pointer) = HoldsPointer f.locations pointer
  Finds Speculate = Unit {0}
  Finds Commit = f.saves ≢ []
  Finds (Guard condition abort_to) = HoldsBool f.locations condition × (f.saves ≢ [])
