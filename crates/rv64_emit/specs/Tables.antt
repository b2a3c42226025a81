-- Tables of the words at which functions and items begin, and code over slots from which an image can be made.
use Rattle.std.specs.Prelude.{◌≡◌, ℕ, ◌+◌, ◌-◌, ◌^◌, ◌<◌, ◌≤◌, List, [], ◌∷◌, length, map, min, Option, Some, None, slice_get, slice_index}
use Rattle.std.specs.List.{range_with_len}
use Rattle.rv64_words.specs.declared.image.GuardAt.{GuardAt}
use Rattle.slot_code.specs.declared.item.SlotItem.{SlotItem}
use Rattle.slot_code.specs.declared.item.SlotItem.TheVariants.{Guard}
use Rattle.slot_code.specs.declared.slots.SlotFunction.{SlotFunction}
use Rattle.slot_code.specs.declared.slots.Slots.{Slots}
use Rattle.rv64_emit_laws.specs.layout.Fits.{ItemFits}
use Rattle.rv64_emit_laws.specs.layout.Homes.{FunctionHomes}
use Rattle.rv64_emit_laws.specs.layout.Image.{start_at, entry_at}
use Rattle.rv64_emit_laws.specs.layout.Items.{guard_front_size}
use Rattle.rv64_words.specs.Region.{most_words}
use Rattle.rv64_emit.specs.Moved.{AreMovable}

-- what a table has for a number, and past its end what it has last
abbrev pub table_at : List ℕ → ℕ → ℕ
table_at table k = slice_index table (min k (length table - 1))

module _ (homes : ℕ → FunctionHomes) (slots : Slots) where
  -- where each function begins, and at last where the image ends
  abbrev pub start_table : List ℕ
  start_table = map (start_at homes slots) (range_with_len 0 (length slots.funcs + 1))

abbrev pub item_count : Option SlotFunction → ℕ
item_count None = 0
item_count (Some g) = length g.code

module _ (homes : ℕ → FunctionHomes) (slots : Slots) where
  -- where each item of function f begins, and at last the words that leave the function
  abbrev pub entry_table : ℕ → List ℕ
  entry_table f = map (entry_at homes slots f) (range_with_len 0 (item_count (slice_get slots.funcs f) + 1))

  -- those of all functions, in their order
  abbrev pub entry_tables : List (List ℕ)
  entry_tables = map entry_table (range_with_len 0 (length slots.funcs))

-- the item at a point as a guard, if it is one, in function f, where its first word is `entry`
abbrev pub guard_with : FunctionHomes → ℕ → ℕ → SlotFunction → ℕ → SlotItem → List GuardAt
guard_with homes entry f g point (Guard condition abort_to) =
    record { word = entry + guard_front_size homes g point condition abort_to; func = f; item = point } ∷ []
guard_with homes entry f g point _ = []

-- The image of code over slots can be made by these homes: functions and points have numbers of 32 bits, `main` is there, slots can be moved, each
-- item fits, and there are at most 250,000 words.
pub record SlotsFit (homes : ℕ → FunctionHomes) (slots : Slots) : Type 0 where
  pub functions : length slots.funcs < 2 ^ 32
  pub main : slots.main < length slots.funcs
  pub points : (f : ℕ) (g : SlotFunction) → slice_get slots.funcs f ≡ Some g → length g.code < 2 ^ 32
  pub movable : (f : ℕ) (g : SlotFunction) → slice_get slots.funcs f ≡ Some g → AreMovable (homes f) g
  pub items : (f : ℕ) (g : SlotFunction) (point : ℕ) (item : SlotItem) → slice_get slots.funcs f ≡ Some g → slice_get g.code point ≡ Some item →
      ItemFits (homes f) g point item
  pub few : start_at homes slots (length slots.funcs) ≤ most_words
