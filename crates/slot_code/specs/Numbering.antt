-- The slots of a function and their numbers.
use Rattle.std.specs.Prelude.{ℕ, ◌+◌, Bool, false, ◌||◌, ◌==◌, List, ◌++◌, length, map, slice_index}
use Rattle.std.specs.List.{filter, list_any, range_with_len}
use Rattle.slot_code.specs.declared.item.Slot.{Slot}
use Rattle.slot_code.specs.declared.item.Slot.TheVariants.{Variable, Shadow}
use Rattle.slot_code.specs.declared.item.SlotItem.{SlotItem}
use Rattle.slot_code.specs.declared.item.SlotItem.TheVariants.{Copy}

-- the slot is the shadow of this variable
abbrev pub is_shadow : ℕ → Slot → Bool
is_shadow x (Variable y) = false
is_shadow x (Shadow y) = x == y

-- the item reads or writes the shadow of this variable: only copies do
abbrev pub uses_shadow : ℕ → SlotItem → Bool
uses_shadow x (Copy dest from) = is_shadow x dest || is_shadow x from
uses_shadow x _ = false

-- the slot is the shadow of a variable that passes a test
abbrev pub passes : (ℕ → Bool) → Slot → Bool
passes test (Variable x) = false
passes test (Shadow x) = test x

-- so many variables, and then the shadows of those that pass a test
abbrev pub slots_in : ℕ → (ℕ → Bool) → List Slot
slots_in variables test = map Variable (range_with_len 0 variables) ++ filter (passes test) (map Shadow (range_with_len 0 variables))

-- the number of a variable's shadow: as many as there are variables, and shadows of earlier ones that pass
abbrev pub shadow_number : ℕ → (ℕ → Bool) → ℕ → ℕ
shadow_number variables test x = variables + length (filter (passes test) (map Shadow (range_with_len 0 x)))

-- some item uses the shadow of this variable
abbrev pub is_used : List SlotItem → ℕ → Bool
is_used code x = list_any (uses_shadow x) code

-- the number of a slot: a variable's own, and for a shadow what the table has
abbrev pub slot_number : List ℕ → Slot → ℕ
slot_number shadows (Variable x) = x
slot_number shadows (Shadow x) = slice_index shadows x
