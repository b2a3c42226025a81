-- The locations that an item over slots reads and assigns, and where control goes from it.
use Rattle.std.specs.Prelude.{ℕ, true, false, List, [], ◌∷◌, map}
use Rattle.bril_tree.specs.Edge.{Branch, onward}
use Rattle.bril_tree.specs.FunctionForm.{listed}
use Rattle.bril_tree.specs.Operand.{Location, Variable, Shadow}
use Rattle.slot_code.specs.declared.item.Slot.{Slot}
use Rattle.slot_code.specs.declared.item.Slot.TheVariants as slot
use Rattle.slot_code.specs.declared.item.SlotItem.{SlotItem}
use Rattle.slot_code.specs.declared.item.SlotItem.TheVariants as item

-- the location that a slot is
abbrev pub slot_location : Slot → Location
slot_location (slot.Variable x) = Variable x
slot_location (slot.Shadow x) = Shadow x

-- the locations that an item reads
abbrev pub slot_reads : SlotItem → List Location
slot_reads (item.Copy dest from) = slot_location from ∷ []
slot_reads (item.Unary operation dest operand) = Variable operand ∷ []
slot_reads (item.Binary operation dest first second) = Variable first ∷ Variable second ∷ []
slot_reads (item.Branch condition then_to else_to) = Variable condition ∷ []
slot_reads (item.Call dest function args) = map Variable args
slot_reads (item.Return value) = map Variable (listed value)
slot_reads (item.Print args) = map (λ a. Variable a.variable) args
slot_reads (item.Alloc dest count) = Variable count ∷ []
slot_reads (item.Free pointer) = Variable pointer ∷ []
slot_reads (item.Store pointer value) = Variable pointer ∷ Variable value ∷ []
slot_reads (item.Load dest pointer) = Variable pointer ∷ []
slot_reads (item.Guard condition abort_to) = Variable condition ∷ []
slot_reads _ = []

-- the locations that an item assigns
abbrev pub slot_assigns : SlotItem → List Location
slot_assigns (item.Constant dest value) = Variable dest ∷ []
slot_assigns (item.Copy dest from) = slot_location dest ∷ []
slot_assigns (item.Unary operation dest operand) = Variable dest ∷ []
slot_assigns (item.Binary operation dest first second) = Variable dest ∷ []
slot_assigns (item.Call dest function args) = map Variable (listed dest)
slot_assigns (item.Alloc dest count) = Variable dest ∷ []
slot_assigns (item.Load dest pointer) = Variable dest ∷ []
slot_assigns _ = []

-- The branches from an item at a point: the next point before the one to which a guard aborts, and of a branch's two
-- points the one where the condition holds first.
abbrev pub slot_branches : ℕ → SlotItem → List Branch
slot_branches p (item.Jump to) = record { from = p; to = to; aborts = false } ∷ []
slot_branches p (item.Branch condition then_to else_to) = record { from = p; to = then_to; aborts = false } ∷ record { from = p; to = else_to; aborts = false } ∷ []
slot_branches p (item.Return value) = []
slot_branches p (item.Guard condition abort_to) = onward p ∷ record { from = p; to = abort_to; aborts = true } ∷ []
slot_branches p _ = onward p ∷ []
