-- The code over slots of a program.
use Rattle.std.specs.Prelude.{◌≡◌, ℕ, List, length, map, Option, Some, None, slice_get, slice_index, unwrap_or}
use Rattle.std.specs.List.{AllZip, range_with_len}
use Rattle.bril_tree.specs.declared.numbered.Instr.{Instr}
use Rattle.bril_tree.specs.declared.numbered.Instr.TheVariants.{Label, Const, Act}
use Rattle.bril_tree.specs.declared.numbered.VarInfo.{VarInfo}
use Rattle.bril_tree.specs.declared.numbered_function.Func.{Func}
use Rattle.bril_tree.specs.declared.operation.Op.{Op}
use Rattle.bril_tree.specs.declared.operation.Op.TheVariants as op
use Rattle.bril_tree.specs.declared.operators.BinaryOp.{BinaryOp}
use Rattle.bril_tree.specs.declared.operators.UnaryOp.{UnaryOp}
use Rattle.bril_tree.specs.declared.program.Prog.{Prog}
use Rattle.bril_tree.specs.declared.types.Base.{Base}
use Rattle.bril_tree.specs.declared.types.Base.TheVariants as base
use Rattle.bril_tree.specs.declared.types.Ty.{Ty}
use Rattle.bril_tree.specs.FrameWords.{AreFrameWords, location_count}
use Rattle.bril_tree.specs.Operators.{binary_of, unary_of}
use Rattle.bril_tree.specs.Step.{point_of}
use Rattle.bril_tree.specs.Typing.{variable_type}
use Rattle.bril_tree.specs.Value.{literal_value, zero_of}
use Rattle.flow_graph.specs.Graph.{GraphView, IsGraphOf}
use Rattle.slot_code.specs.declared.item.Printed.{Printed}
use Rattle.slot_code.specs.declared.item.Slot.TheVariants.{Variable, Shadow}
use Rattle.slot_code.specs.declared.item.SlotItem.{SlotItem}
use Rattle.slot_code.specs.declared.item.SlotItem.TheVariants.{Pass, Constant, Copy, Unary, Binary, Jump, Branch, Call, Return, Print, Alloc, Free, Store, Load, Speculate, Commit, Guard}
use Rattle.slot_code.specs.declared.slots.SlotFunction.{SlotFunction}
use Rattle.slot_code.specs.declared.slots.Slots.{Slots}
use Rattle.slot_code.specs.Numbering.{is_used, shadow_number, slots_in}

-- ---- items

-- an item with a destination, which the operation has in an accepted program
abbrev pub with_dest : Option ℕ → (ℕ → SlotItem) → SlotItem
with_dest None make = Pass
with_dest (Some x) make = make x

-- the zero of a type, which the destination of an `undef` has in an accepted program
abbrev pub undefined_constant : Option Ty → ℕ → SlotItem
undefined_constant None x = Pass
undefined_constant (Some ty) x = Constant x (zero_of ty)

-- the base of a type: what a variable that is printed holds
abbrev pub kind_of : Option Ty → Base
kind_of None = base.Int
kind_of (Some ty) = ty.base

-- a variable that is printed, and what it holds
abbrev pub printed_as : List VarInfo → ℕ → Printed
printed_as vars x = record { variable = x; kind = kind_of (variable_type vars x) }

-- a destination gets a value that isn't computed: that of its shadow, a zero, a new block, or what a cell holds
abbrev pub lowered_given : Op → Option Ty → List ℕ → ℕ → SlotItem
lowered_given op.Id ty args x = Copy (Variable x) (Variable (slice_index args 0))
lowered_given op.Get ty args x = Copy (Variable x) (Shadow x)
lowered_given op.Undef ty args x = undefined_constant ty x
lowered_given op.Alloc ty args x = Alloc x (slice_index args 0)
lowered_given op.Load ty args x = Load x (slice_index args 0)
lowered_given _ ty args x = Pass

-- shadows, memory and speculation
abbrev pub lowered_effect : Op → Option ℕ → Option Ty → List ℕ → SlotItem
lowered_effect op.Set dest ty args = Copy (Shadow (slice_index args 0)) (Variable (slice_index args 1))
lowered_effect op.Free dest ty args = Free (slice_index args 0)
lowered_effect op.Store dest ty args = Store (slice_index args 0) (slice_index args 1)
lowered_effect op.Speculate dest ty args = Speculate
lowered_effect op.Commit dest ty args = Commit
lowered_effect operation dest ty args = with_dest dest (lowered_given operation ty args)

abbrev pub lowered_unary : Option UnaryOp → Op → Option ℕ → Option Ty → List ℕ → SlotItem
lowered_unary None operation dest ty args = lowered_effect operation dest ty args
lowered_unary (Some computing) operation dest ty args = with_dest dest (λ x. Unary computing x (slice_index args 0))

abbrev pub lowered_binary : Option BinaryOp → Op → Option ℕ → Option Ty → List ℕ → SlotItem
lowered_binary None operation dest ty args = lowered_unary (unary_of operation) operation dest ty args
lowered_binary (Some computing) operation dest ty args =
    with_dest dest (λ x. Binary computing x (slice_index args 0) (slice_index args 1))

-- an operation that goes on to the next item, other than calls and output
abbrev pub lowered_plain : Op → Option ℕ → Option Ty → List ℕ → SlotItem
lowered_plain operation dest ty args = lowered_binary (binary_of operation) operation dest ty args

module _ (f : Func) where
  -- the point of the label at a place
  abbrev pub target : List ℕ → ℕ → ℕ
  target labels k = point_of (slice_index labels k) f.code

  -- an operation that goes to labels
  abbrev pub lowered_jump : Op → List ℕ → List ℕ → Option SlotItem
  lowered_jump op.Jmp args labels = Some (Jump (target labels 0))
  lowered_jump op.Br args labels = Some (Branch (slice_index args 0) (target labels 0) (target labels 1))
  lowered_jump op.Guard args labels = Some (Guard (slice_index args 0) (target labels 0))
  lowered_jump _ args labels = None

  -- an operation with its variables, its jumps and its function
  abbrev pub lowered_action : Op → Option ℕ → Option Ty → List ℕ → List ℕ → List ℕ → SlotItem
  lowered_action op.Call dest ty args funcs labels = Call dest (slice_index funcs 0) args
  lowered_action op.Ret dest ty args funcs labels = Return (slice_get args 0)
  lowered_action op.Print dest ty args funcs labels = Print (map (printed_as f.vars) args)
  lowered_action operation dest ty args funcs labels =
      unwrap_or (lowered_jump operation args labels) (lowered_plain operation dest ty args)

  -- an item of the function
  abbrev pub lowered_item : Instr → SlotItem
  lowered_item (Label l) = Pass
  lowered_item (Const dest ty value) = Constant dest (literal_value value)
  lowered_item (Act dest ty operation args funcs labels) = lowered_action operation dest ty args funcs labels

-- ---- functions

-- how many sites are open, none where no walk leads
abbrev pub open_count : Option (List ℕ) → ℕ
open_count None = 0
open_count (Some sites) = length sites

-- how many sites are open at each point
pub record AreDepths (code : List Instr) (depths : List ℕ) : Type 0 where
  pub graph : GraphView
  pub is : IsGraphOf code graph
  pub are : depths ≡ map open_count graph.sites

-- the newest of open sites, 0 where none is open
abbrev pub newest_open : Option (List ℕ) → ℕ
newest_open None = 0
newest_open (Some sites) = slice_index sites 0

-- the newest open site at each point
pub record AreNewestSites (code : List Instr) (newest : List ℕ) : Type 0 where
  pub graph : GraphView
  pub is : IsGraphOf code graph
  pub are : newest ≡ map newest_open graph.sites

-- It is the code of this function over slots.
pub record IsLoweredFunction (f : Func) (g : SlotFunction) : Type 0 where
  pub args : g.args ≡ f.args
  pub variables : g.variables ≡ length f.vars
  pub slots : g.slots ≡ slots_in g.variables (is_used g.code)
  pub shadow_numbers : g.shadow_numbers ≡ map (shadow_number g.variables (is_used g.code)) (range_with_len 0 g.variables)
  pub count : length g.slots ≡ location_count f
  pub depths : AreDepths f.code g.depths
  pub newest : AreNewestSites f.code g.newest
  pub words : AreFrameWords f g.words
  pub code : g.code ≡ map (lowered_item f) f.code

-- It is the code of this program over slots.
pub record IsLowered (p : Prog) (slots : Slots) : Type 0 where
  pub main : slots.main ≡ p.main
  pub funcs : AllZip IsLoweredFunction p.funcs slots.funcs
