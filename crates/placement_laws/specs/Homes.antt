-- Which homes a location of a function may have.
use Rattle.std.specs.Prelude.{◌≡◌, ℕ, ◌+◌, ◌<◌, IsTrue}
use Rattle.bril_tree.specs.declared.home.Home.{Home}
use Rattle.bril_tree.specs.declared.home.Home.TheVariants.{Reg, Frame}
use Rattle.bril_tree.specs.FrameWords.{frame_head}
use Rattle.bril_tree.specs.Home.{is_home_register}
use Rattle.bril_tree.specs.Operand.{Location, Variable, Shadow}
use Rattle.slot_code.specs.declared.item.Slot.{Slot}
use Rattle.slot_code.specs.declared.item.Slot.TheVariants as slot
use Rattle.slot_code.specs.declared.slots.SlotFunction.{SlotFunction}
use Rattle.slot_code.specs.Laws.{IsSlotOf}
use Rattle.slot_code.specs.Numbering.{slot_number}

-- the slot that a location is
abbrev pub slot_of : Location → Slot
slot_of (Variable x) = slot.Variable x
slot_of (Shadow x) = slot.Shadow x

-- the location is a slot of the function
abbrev pub IsSlotIn : SlotFunction → Location → Type 0
IsSlotIn g x = IsSlotOf g (slot_of x)

-- its number among the function's slots
abbrev pub number_in : SlotFunction → Location → ℕ
number_in g x = slot_number g.shadow_numbers (slot_of x)

-- the word of the frame that is its own
abbrev pub own_word : SlotFunction → Location → ℕ
own_word g x = frame_head + number_in g x

-- A location is in its own word of the frame, or in a register; a call keeps the register in that word, which then has a
-- number below 256.
abbrev pub IsHomeOf : SlotFunction → Location → Home → Type 0
IsHomeOf g x (Reg r) = IsTrue (is_home_register r) × (own_word g x < 256)
IsHomeOf g x (Frame word) = word ≡ own_word g x

-- the home is a register
abbrev pub IsInRegister : Home → Type 0
IsInRegister (Reg r) = IsTrue (is_home_register r)
IsInRegister (Frame word) = ⊥

-- no two locations of the function have one home
abbrev pub HaveOwnHomes : SlotFunction → (Location → Home) → Type 0
HaveOwnHomes g homes = (x y : Location) → IsSlotIn g x → IsSlotIn g y → homes x ≡ homes y → x ≡ y
