-- The spots of an image's points: where they are, and how they are marked.
use Rattle.std.specs.Prelude.{◌≡◌, ℕ, ◌+◌, ◌*◌, ◌/◌, ◌%◌, ◌^◌, ◌==◌, ◌&&◌, ◌||◌, Bool, true, false, List, Option, Some, None, if◌then◌else◌, map, slice_get, slice_index_or, slice_set}
use Rattle.std.specs.List.{list_any}
use Rattle.std.specs.Option.{option_map}
use Rattle.rv64_words.specs.declared.points.PointAt.{PointAt}
use Rattle.rv64_words.specs.declared.points.Points.{Points}
use Rattle.step_monitor.specs.declared.spots.Entry.{Entry}
use Rattle.step_monitor.specs.declared.spots.Spot.{Spot}

-- ---- spots and points

-- A point's spot is at its word, and each spot is that of a point.
pub record AreSpots (points : Points) (spots : List (Option Spot)) : Type 0 where
  pub told : (word : ℕ) (spot : Spot) → slice_get spots word ≡ Some (Some spot) → (k : ℕ) × (at : PointAt) × (slice_get points.points k ≡ Some at) × (at.word ≡ word) × (at.func ≡ spot.func) × (at.item ≡ spot.item) × (at.homes ≡ spot.homes)
  pub all : (k : ℕ) (at : PointAt) → slice_get points.points k ≡ Some at → (spot : Spot) × (slice_get spots at.word ≡ Some (Some spot)) × (spot.func ≡ at.func) × (spot.item ≡ at.item) × (spot.homes ≡ at.homes)

-- there is a spot of this function and item
pub record HasItem (spots : List (Option Spot)) (f i : ℕ) : Type 0 where
  pub word : ℕ
  pub spot : Spot
  pub is : slice_get spots word ≡ Some (Some spot)
  pub func : spot.func ≡ f
  pub item : spot.item ≡ i

-- ---- marks

-- the spots that count are those of the chosen items
abbrev pub AreChosen : (ℕ → ℕ → Bool) → Bool → List (Option Spot) → Type 0
AreChosen chosen any spots = (word : ℕ) (spot : Spot) → slice_get spots word ≡ Some (Some spot) → (any || spot.marked) ≡ chosen spot.func spot.item

-- no spot is marked
abbrev pub NoneMarked : List (Option Spot) → Type 0
NoneMarked spots = (word : ℕ) (spot : Spot) → slice_get spots word ≡ Some (Some spot) → spot.marked ≡ false

-- the spot is marked, or not, where it is of this function and item
abbrev pub marked_if : ℕ → ℕ → Bool → Spot → Spot
marked_if f i on spot = record spot { marked = if spot.func == f && spot.item == i then on else spot.marked }

-- and so are all spots
abbrev pub with_marks : ℕ → ℕ → Bool → List (Option Spot) → List (Option Spot)
with_marks f i on spots = map (option_map (marked_if f i on)) spots

-- ---- how the spots are made and marked

abbrev pub spot_of : PointAt → Spot
spot_of at = record { func = at.func; item = at.item; homes = at.homes; marked = false }

-- the point's spot is put at its word
abbrev pub put_spot : List (Option Spot) → PointAt → List (Option Spot)
put_spot spots at = slice_set spots at.word (Some (spot_of at))

abbrev pub marked_as : Bool → Option Spot → Option Spot
marked_as on = option_map (λ (spot : Spot). record spot { marked = on })

-- the spot at an entry's word is marked, or not
abbrev pub with_mark : Bool → List (Option Spot) → Entry → List (Option Spot)
with_mark on spots entry = slice_set spots entry.word (marked_as on (slice_index_or spots entry.word None))

-- ---- the index

abbrev pub key_at : PointAt → ℕ
key_at at = at.func * 2 ^ 32 + at.item

-- the key is that of this function and item alone
abbrev pub HasKey : PointAt → Type 0
HasKey at = (key_at at / 2 ^ 32 ≡ at.func) × (key_at at % 2 ^ 32 ≡ at.item)

abbrev pub indexed : PointAt → Entry
indexed at = record { key = key_at at; word = at.word }

abbrev pub func_in : Option (Option Spot) → Option ℕ
func_in None = None
func_in (Some None) = None
func_in (Some (Some spot)) = Some spot.func

abbrev pub item_in : Option (Option Spot) → Option ℕ
item_in None = None
item_in (Some None) = None
item_in (Some (Some spot)) = Some spot.item

-- the entry is that of the spot at its word
abbrev pub IsEntryOf : List (Option Spot) → Entry → Type 0
IsEntryOf spots entry = (func_in (slice_get spots entry.word) ≡ Some (entry.key / 2 ^ 32)) × (item_in (slice_get spots entry.word) ≡ Some (entry.key % 2 ^ 32))

-- each spot has an entry
abbrev pub AreFound : List (Option Spot) → List Entry → Type 0
AreFound spots index = (word : ℕ) (spot : Spot) → slice_get spots word ≡ Some (Some spot) → list_any (λ (entry : Entry). entry.word == word) index ≡ true
