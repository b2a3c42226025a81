-- The homes of the slots of a program's functions, by a placement, and by what is live in each function; which functions are
-- leaves, and whether items are marked.
use Rattle.std.specs.Prelude.{ℕ, Bool, true, false, List, Option, Some, None, if◌then◌else◌, slice_get}
use Rattle.std.specs.List.{list_all}
use Rattle.live_sets.specs.declared.live.Live.{Live}
use Rattle.live_sets.specs.Liveness.{is_live}
use Rattle.shadow_place.specs.declared.placed.Placed.{Placed}
use Rattle.shadow_place.specs.Tables.{home_in, is_saved_in}
use Rattle.slot_code.specs.declared.item.Slot.{Slot}
use Rattle.slot_code.specs.declared.item.Slot.TheVariants.{Variable}
use Rattle.slot_code.specs.declared.item.SlotItem.{SlotItem}
use Rattle.slot_code.specs.declared.item.SlotItem.TheVariants.{Call}
use Rattle.slot_code.specs.declared.slots.SlotFunction.{SlotFunction}
use Rattle.slot_code.specs.declared.slots.Slots.{Slots}
use Rattle.slot_code.specs.Flow.{slot_location}
use Rattle.rv64_emit_laws.specs.layout.Homes.{FunctionHomes}
use Rattle.rv64_emit.specs.declared.homes.ProgramHomes.{ProgramHomes}
use Rattle.rv64_emit.specs.declared.homes.SlotHomes.{SlotHomes}

-- by a table that may be there
abbrev pub is_live_if : Option Live → ℕ → Slot → Bool
is_live_if None point slot = false
is_live_if (Some live) point slot = is_live live (slot_location slot) point

-- an item calls no function, nor does any of a function that is a leaf
abbrev pub calls_none : SlotItem → Bool
calls_none (Call dest function args) = false
calls_none _ = true

abbrev pub is_leaf_if : Option SlotFunction → Bool
is_leaf_if None = false
is_leaf_if (Some g) = list_all calls_none g.code

abbrev pub function_homes : (marked leaf : Bool) → Placed → List Live → ℕ → FunctionHomes
function_homes marked leaf placed lives f = record {
  home = λ slot. home_in placed f (slot_location slot);
  saved = λ site slot. is_saved_in placed f site (slot_location slot);
  live = λ point slot. is_live_if (slice_get lives f) point slot;
  given = λ function k. if is_live_if (slice_get lives function) 0 (Variable k) then Some (home_in placed function (slot_location (Variable k))) else None;
  leaf = leaf;
  marked = marked;
}

abbrev pub placed_homes : Bool → Slots → Placed → List Live → ℕ → FunctionHomes
placed_homes marked slots placed lives f = function_homes marked (is_leaf_if (slice_get slots.funcs f)) placed lives f

-- those of one function, and those of all
abbrev pub homes_in : SlotHomes → FunctionHomes
homes_in h = function_homes h.marked h.leaf h.placed.now h.lives.now h.function

abbrev pub all_homes : ProgramHomes → ℕ → FunctionHomes
all_homes h = placed_homes h.marked h.slots.now h.placed.now h.lives.now
