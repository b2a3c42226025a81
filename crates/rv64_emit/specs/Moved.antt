-- Which slots of a function are brought into words of the frame, or from there.
use Rattle.std.specs.Prelude.{◌≡◌, ℕ, ◌+◌, ◌*◌, ◌-◌, ◌^◌, ◌<◌, Bool, true, Some, length, slice_get}
use Rattle.std.specs.List.{AllByRecursion}
use Rattle.slot_code.specs.declared.item.Slot.{Slot}
use Rattle.slot_code.specs.declared.slots.SlotFunction.{SlotFunction}
use Rattle.rv64_emit_laws.specs.layout.Fits.{IsReached, frame_reach}
use Rattle.rv64_emit_laws.specs.layout.Homes.{FunctionHomes, depth_at, in_register, is_kept, is_loaded, is_taken_back, outlives}
use Rattle.rv64_emit.specs.declared.moved.Moved.{Moved}
use Rattle.rv64_emit.specs.declared.moved.Moved.TheVariants.{Kept, TakenBack, Outliving, Loaded}

abbrev pub is_moved : FunctionHomes → SlotFunction → Moved → Slot → Bool
is_moved homes g (Kept point) slot = is_kept homes point slot
is_moved homes g (TakenBack point label) slot = is_taken_back homes g point label slot
is_moved homes g (Outliving point dest) slot = outlives homes point dest slot
is_moved homes g Loaded slot = is_loaded homes g slot

-- the number of the point after a call is small enough
abbrev pub IsReady : Moved → Type 0
IsReady (Outliving point dest) = point + 1 < 2 ^ 32
IsReady _ = Unit {0}

-- slots that are in registers are among the first 254
abbrev pub AreRegistersNear : FunctionHomes → SlotFunction → Type 0
AreRegistersNear homes g = (k : ℕ) (slot : Slot) → slice_get g.slots k ≡ Some slot → in_register (homes.home slot) ≡ true → k < 254

-- The slots of a function can be moved: each has a home within reach, and those in registers are among the first ones.
pub record AreMovable (homes : FunctionHomes) (g : SlotFunction) : Type 0 where
  pub reached : AllByRecursion (λ slot. IsReached (homes.home slot)) g.slots
  pub near : AreRegistersNear homes g

-- They can be moved at a point: the words of its levels are within reach, and there is a number for the point after it.
pub record AreMovableAt (homes : FunctionHomes) (g : SlotFunction) (point : ℕ) : Type 0 where
  pub slots : AreMovable homes g
  pub levels : length g.slots * (depth_at g point + 2) < frame_reach
  pub small : point < 2 ^ 32 - 1
