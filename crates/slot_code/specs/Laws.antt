-- Laws of code over slots.
use Rattle.std.specs.Prelude.{◌≡◌, ℕ, ◌<◌, List, [], ◌∷◌, ◌++◌, All, map, Some, IsTrue, is_some, true, slice_get}
use Rattle.bril_tree.specs.declared.limits.Limits.{Limits}
use Rattle.bril_tree.specs.declared.numbered.Instr.{Instr}
use Rattle.bril_tree.specs.declared.numbered_function.Func.{Func}
use Rattle.bril_tree.specs.declared.program.Prog.{Prog}
use Rattle.bril_tree.specs.Accepted.{IsAccepted}
use Rattle.bril_tree.specs.Assigned.{assigns_of}
use Rattle.bril_tree.specs.Edge.{item_branches}
use Rattle.bril_tree.specs.FunctionForm.{dest_is_typed, listed}
use Rattle.bril_tree.specs.Operand.{reads_of}
use Rattle.bril_tree.specs.Shape.{is_shaped}
use Rattle.bril_tree.specs.State.{State}
use Rattle.slot_code.specs.declared.item.Slot.{Slot}
use Rattle.slot_code.specs.declared.item.Slot.TheVariants.{Variable, Shadow}
use Rattle.slot_code.specs.declared.item.SlotItem.{SlotItem}
use Rattle.slot_code.specs.declared.item.SlotItem.TheVariants.{Pass, Constant, Copy, Unary, Binary, Jump, Branch, Call, Return, Print, Alloc, Free, Store, Load, Speculate, Commit, Guard}
use Rattle.slot_code.specs.declared.slots.SlotFunction.{SlotFunction}
use Rattle.slot_code.specs.declared.slots.Slots.{Slots}
use Rattle.slot_code.specs.Flow.{slot_assigns, slot_branches, slot_reads}
use Rattle.slot_code.specs.Lowered.{IsLoweredFunction, lowered_item}
use Rattle.slot_code.specs.Meaning.{slot_step}
use Rattle.slot_code.specs.Numbering.{is_used, slot_number}

-- the slot is one of the function's variables, or the shadow of one that some item uses
abbrev pub IsSlotOf : SlotFunction → Slot → Type 0
IsSlotOf g (Variable x) = x < g.variables
IsSlotOf g (Shadow x) = (x < g.variables) × IsTrue (is_used g.code x)

-- a slot of a function stands in the list of its slots at its number
abbrev pub SlotsHaveNumbers : Type 0
SlotsHaveNumbers = (f : Func) (g : SlotFunction) → IsLoweredFunction f g → (slot : Slot) → IsSlotOf g slot →
    slice_get g.slots (slot_number g.shadow_numbers slot) ≡ Some slot

-- what stands at a place of the list of a function's slots is a slot of the function, and has that number
abbrev pub SlotsAreNumbered : Type 0
SlotsAreNumbered = (f : Func) (g : SlotFunction) → IsLoweredFunction f g → (k : ℕ) (slot : Slot) → slice_get g.slots k ≡ Some slot →
    IsSlotOf g slot × (slot_number g.shadow_numbers slot ≡ k)

-- the slots that an item reads or writes
abbrev pub slots_used : SlotItem → List Slot
slots_used Pass = []
slots_used (Constant dest value) = Variable dest ∷ []
slots_used (Copy dest from) = dest ∷ from ∷ []
slots_used (Unary operation dest operand) = Variable dest ∷ Variable operand ∷ []
slots_used (Binary operation dest first second) = Variable dest ∷ Variable first ∷ Variable second ∷ []
slots_used (Jump to) = []
slots_used (Branch condition then_to else_to) = Variable condition ∷ []
slots_used (Call dest function args) = map Variable (listed dest ++ args)
slots_used (Return value) = map Variable (listed value)
slots_used (Print args) = map (λ a. Variable a.variable) args
slots_used (Alloc dest count) = Variable dest ∷ Variable count ∷ []
slots_used (Free pointer) = Variable pointer ∷ []
slots_used (Store pointer value) = Variable pointer ∷ Variable value ∷ []
slots_used (Load dest pointer) = Variable dest ∷ Variable pointer ∷ []
slots_used Speculate = []
slots_used Commit = []
slots_used (Guard condition abort_to) = Variable condition ∷ []

-- what an item of an accepted program reads or writes is a slot of its function
abbrev pub ItemsUseSlots : Type 0
ItemsUseSlots = (p : Prog) (k : ℕ) (f : Func) (g : SlotFunction) → IsAccepted p → slice_get p.funcs k ≡ Some f → IsLoweredFunction f g →
    (point : ℕ) (item : SlotItem) → slice_get g.code point ≡ Some item → All (IsSlotOf g) (slots_used item)

-- an item reads the locations that its instruction reads
abbrev pub ItemsRead : Type 0
ItemsRead = (f : Func) (item : Instr) → is_shaped (is_some f.ret) item ≡ true → dest_is_typed item ≡ true → slot_reads (lowered_item f item) ≡ reads_of item

-- an item assigns the locations that its instruction assigns
abbrev pub ItemsAssign : Type 0
ItemsAssign = (f : Func) (item : Instr) → is_shaped (is_some f.ret) item ≡ true → dest_is_typed item ≡ true → slot_assigns (lowered_item f item) ≡ assigns_of item

-- from an item control goes where it goes from its instruction
abbrev pub ItemsGo : Type 0
ItemsGo = (f : Func) (point : ℕ) (item : Instr) → is_shaped (is_some f.ret) item ≡ true → slot_branches point (lowered_item f item) ≡ item_branches f.code point item

-- the step of code over slots depends on no program
abbrev pub StepsReadNoProgram : Type 0
StepsReadNoProgram = (p q : Prog) (slots : Slots) (limits : Limits) (s : State) → slot_step p slots limits s ≡ slot_step q slots limits s
