-- Why a program is not accepted: its first fault.
use Rattle.std.specs.Prelude.{◌≡◌, ℕ, ◌<◌, ◌⊎◌, List, [], All, take, length, Some, None, IsTrue, IsSome, is_some, slice_get}
use Rattle.std.specs.Option.{IsSomeAnd}
use Rattle.bril_tree.specs.Accepted.{IsAcceptedFunction, IsMainPlain, leaves_frame}
use Rattle.bril_tree.specs.Edge.{Branch}
use Rattle.bril_tree.specs.Shape.{is_shaped}
use Rattle.bril_tree.specs.Sites.{AreSitesSound, sites_of}
use Rattle.bril_tree.specs.Typing.{is_call_shaped, type_fault, TypeFault, WrongType, PrintsPointer}
use Rattle.bril_tree.specs.Walk.{IsWalk, IsReached, end_of}
use Rattle.bril_tree.specs.declared.numbered.Instr.{Instr}
use Rattle.bril_tree.specs.declared.numbered_function.Func.{Func}
use Rattle.bril_tree.specs.declared.program.Prog.{Prog}
use Rattle.definite_assignment.specs.Unassigned.{IsFirstUnassigned}
use Rattle.flow_graph.specs.Graph.{IsLeastFailing}
use Rattle.bril_checker.specs.declared.fault.CheckFault.{CheckFault}
use Rattle.bril_checker.specs.declared.fault.CheckFault.TheVariants.{Types, Arity, MaybeUnassigned, Nest, SpecCall, NoReturn, MainType, PrintPtr, Memory}

-- the item has the shape of its operation and, where it calls, that of the called function
abbrev pub HasShape : Prog → Func → Instr → Type 0
HasShape p f item = IsTrue (is_shaped (is_some f.ret) item) × IsTrue (is_call_shaped p f item)

abbrev pub IsTyped : Prog → Func → Instr → Type 0
IsTyped p f item = type_fault p f item ≡ None

-- the first item without a shape
pub record IsFirstMisshapen (p : Prog) (f : Func) (point : ℕ) : Type 0 where
  pub item : Instr
  pub here : slice_get f.code point ≡ Some item
  pub before : All (HasShape p f) (take point f.code)
  pub lacks : ¬ HasShape p f item

-- the first item with a fault of its types, which is this one
pub record IsFirstMistyped (p : Prog) (f : Func) (point : ℕ) (fault : TypeFault) : Type 0 where
  pub item : Instr
  pub here : slice_get f.code point ≡ Some item
  pub before : All (IsTyped p f) (take point f.code)
  pub has : type_fault p f item ≡ Some fault

-- a walk comes with open sites to an item that begins or ends a frame, or to the function's end
pub record LeavesOpen (f : Func) (point : ℕ) : Type 0 where
  pub walk : List Branch
  pub is : IsWalk f.code walk
  pub ends : end_of walk ≡ point
  pub leaves : IsTrue (leaves_frame (slice_get f.code point))
  pub opened : ¬ (sites_of f.code walk ≡ [])

pub record IsFirstOpen (f : Func) (point : ℕ) : Type 0 where
  pub leaves : LeavesOpen f point
  pub least : (before : ℕ) → before < point → ¬ LeavesOpen f before

-- ---- what the faults of a function have before them, in their order

abbrev pub AreShaped : Prog → Func → Type 0
AreShaped p f = All (HasShape p f) f.code

abbrev pub AreTyped : Prog → Func → Type 0
AreTyped p f = AreShaped p f × All (IsTyped p f) f.code

abbrev pub AreNested : Prog → Func → Type 0
AreNested p f = AreTyped p f × AreSitesSound f.code

abbrev pub AreClosed : Prog → Func → Type 0
AreClosed p f = AreNested p f × ((point : ℕ) → ¬ LeavesOpen f point)

-- a function that returns a value doesn't run off its end
abbrev pub Returns : Func → Type 0
Returns f = IsSome f.ret → ¬ IsReached f.code (length f.code)

-- The function of this number has this first fault.
abbrev pub HasFaultWithin : Prog → ℕ → Func → CheckFault → Type 0
HasFaultWithin p number f (Arity func item) = (func ≡ number) × IsFirstMisshapen p f item
HasFaultWithin p number f (Types func item) = (func ≡ number) × AreShaped p f × IsFirstMistyped p f item WrongType
HasFaultWithin p number f (PrintPtr func item) = (func ≡ number) × AreShaped p f × IsFirstMistyped p f item PrintsPointer
HasFaultWithin p number f (Nest func item) = (func ≡ number) × AreTyped p f × IsLeastFailing f.code item
HasFaultWithin p number f (SpecCall func item) = (func ≡ number) × AreNested p f × IsFirstOpen f item
HasFaultWithin p number f (NoReturn func item) =
    (func ≡ number) × AreClosed p f × (item ≡ length f.code) × IsSome f.ret × IsReached f.code item
HasFaultWithin p number f (MaybeUnassigned func item var) =
    (func ≡ number) × AreClosed p f × Returns f × IsFirstUnassigned f item var
HasFaultWithin p number f MainType = ⊥
HasFaultWithin p number f Memory = ⊥

-- the first function that isn't accepted has this fault
pub record FirstFaultWithin (p : Prog) (fault : CheckFault) : Type 0 where
  pub main : IsMainPlain p
  pub number : ℕ
  pub function : Func
  pub here : slice_get p.funcs number ≡ Some function
  pub before : All (IsAcceptedFunction p) (take number p.funcs)
  pub has : HasFaultWithin p number function fault

-- The program's first fault: the type of `main`, and then those within its functions in order.
abbrev pub HasFault : Prog → CheckFault → Type 0
HasFault p MainType = ¬ IsMainPlain p
HasFault p Memory = ⊥
HasFault p (Types func item) = FirstFaultWithin p (Types func item)
HasFault p (Arity func item) = FirstFaultWithin p (Arity func item)
HasFault p (MaybeUnassigned func item var) = FirstFaultWithin p (MaybeUnassigned func item var)
HasFault p (Nest func item) = FirstFaultWithin p (Nest func item)
HasFault p (SpecCall func item) = FirstFaultWithin p (SpecCall func item)
HasFault p (NoReturn func item) = FirstFaultWithin p (NoReturn func item)
HasFault p (PrintPtr func item) = FirstFaultWithin p (PrintPtr func item)

-- Memory is taken: `main` is right, and so are the items of the first function by themselves.
pub record TakesMemory (p : Prog) : Type 0 where
  pub main : IsMainPlain p
  pub items : IsSomeAnd (slice_get p.funcs 0) (AreTyped p)

-- what a fault says of the program; want of memory says nothing
abbrev pub IsFaultOf : Prog → CheckFault → Type 0
IsFaultOf p fault = (fault ≡ Memory) ⊎ HasFault p fault
