-- When the words of an item have encodings: the frame is small enough, and so are the numbers of its slots.
use Rattle.std.specs.Prelude.{◌≡◌, Some, ℕ, ◌+◌, ◌*◌, ◌^◌, ◌<◌, ◌≤◌, length}
use Rattle.std.specs.List.{AllByRecursion}
use Rattle.bril_tree.specs.declared.home.Home.{Home}
use Rattle.bril_tree.specs.declared.home.Home.TheVariants.{Reg, Frame}
use Rattle.bril_tree.specs.Value.{IsInRange}
use Rattle.slot_code.specs.declared.item.SlotItem.{SlotItem}
use Rattle.slot_code.specs.declared.item.SlotItem.TheVariants.{Call, Constant}
use Rattle.slot_code.specs.declared.slots.SlotFunction.{SlotFunction}
use Rattle.slot_code.specs.Laws.{slots_used}
use Rattle.rv64_emit_laws.specs.layout.Homes.{FunctionHomes, depth_at}
use Rattle.rv64_emit_laws.specs.layout.Items.{item_size}
use Rattle.rv64_emit_laws.specs.layout.Reach.{most_size}

-- The numbers of a frame's words, of those of its levels and of arguments are below this one: far offsets of 32 bits reach them.
abbrev pub frame_reach : ℕ
frame_reach = 2 ^ 26

-- how many arguments an item passes to a function
abbrev pub passed_by : SlotItem → ℕ
passed_by (Call dest function args) = length args
passed_by _ = 0

-- the value of a constant is in its range
abbrev pub HasConstantInRange : SlotItem → Type 0
HasConstantInRange (Constant dest value) = IsInRange value
HasConstantInRange _ = Unit {0}

-- the words of a home have encodings
abbrev pub IsReached : Home → Type 0
IsReached (Reg number) = number < 32
IsReached (Frame word) = word < frame_reach

-- The item at a point of a function fits: none of the numbers in its words is too large, and it has no more words than its kind.
pub record ItemFits (homes : FunctionHomes) (g : SlotFunction) (point : ℕ) (item : SlotItem) : Type 0 where
  pub slots : AllByRecursion (λ slot. IsReached (homes.home slot)) (slots_used item)
  pub all_slots : AllByRecursion (λ slot. IsReached (homes.home slot)) g.slots
  pub frame : g.words < frame_reach
  pub levels : length g.slots * (depth_at g point + 2) < frame_reach
  pub passed : passed_by item < frame_reach
  pub constant : HasConstantInRange item
  pub given : (function k r : ℕ) → homes.given function k ≡ Some (Reg r) → r < 32
  pub few : item_size homes g point item ≤ most_size (length g.slots) item
