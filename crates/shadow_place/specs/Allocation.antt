-- Which slots of a function are in registers, and which of them share one.
use Rattle.std.specs.Prelude.{◌≡◌, ◌≢◌, ◌⊎◌, ℕ, ◌<◌, ◌≤◌, List, length, slice_index}
use Rattle.bril_tree.specs.declared.numbered_function.Func.{Func}
use Rattle.bril_tree.specs.FrameWords.{location_count}
use Rattle.bril_tree.specs.Operand.{Location}
use Rattle.placement_laws.specs.Homes.{IsSlotIn, number_in}
use Rattle.placement_laws.specs.Spans.{AreSpans, Span}
use Rattle.slot_code.specs.declared.slots.SlotFunction.{SlotFunction}
use Rattle.shadow_place.specs.Registers.{AreHomeRegisters, home_registers}

-- The registers of slots, 0 for none, are homes; two slots share one only where their spans don't meet; and where there are
-- enough of them, each slot has one.
pub record IsAllocation (f : Func) (g : SlotFunction) (registers : List ℕ) : Type 0 where
  pub homes : AreHomeRegisters registers
  pub spans : Location → Span
  pub are : AreSpans f.code f.args spans
  pub separate : (x y : Location) → IsSlotIn g x → IsSlotIn g y → x ≢ y → slice_index registers (number_in g x) ≢ 0 → slice_index registers (number_in g x) ≡ slice_index registers (number_in g y) → ((spans x).last < (spans y).first) ⊎ ((spans y).last < (spans x).first)
  pub few : location_count f ≤ home_registers → (slot : ℕ) → slot < length g.slots → slice_index registers slot ≢ 0
