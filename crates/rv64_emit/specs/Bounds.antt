-- The sum of the bounds on a program's words, as far as the numbers of its functions' locations are known.
use Rattle.std.specs.Prelude.{◌≡◌, ℕ, ◌+◌, List, length, Option, Some, None, slice_get}
use Rattle.std.specs.List.{sum_by}
use Rattle.bril_tree.specs.declared.numbered_function.Func.{Func}
use Rattle.bril_tree.specs.declared.program.Prog.{Prog}
use Rattle.rv64_image_laws.specs.WordBounds.{word_bound, function_bound}
use Rattle.slot_code.specs.declared.slots.SlotFunction.{SlotFunction}

abbrev pub slot_count : Option SlotFunction → ℕ
slot_count None = 0
slot_count (Some g) = length g.slots

-- the number of a function's locations by its code over slots; 0 where that isn't there
abbrev pub locations_at : List SlotFunction → ℕ → ℕ
locations_at funcs k = slot_count (slice_get funcs k)

-- the bound of a function's words, if it has so many locations
abbrev pub bound_with : ℕ → Func → ℕ
bound_with locations f = 40 + sum_by (word_bound locations) f.code

-- The bounds of all functions are those with these locations: all are known, or none matters.
abbrev pub AreLocationsKnown : Prog → List SlotFunction → Type 0
AreLocationsKnown p funcs = (k : ℕ) (f : Func) → slice_get p.funcs k ≡ Some f → bound_with (locations_at funcs k) f ≡ function_bound f
