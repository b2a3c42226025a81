-- The message on a fault.
use Rattle.std.specs.Prelude.{ℕ, ◌≡◌, ◌≤◌, ◌==◌, List, [], ◌∷◌, ◌++◌, length, Option, Some, None, codes, slice_range, if◌then◌else◌}
use Rattle.std.specs.Fmt.{decimal}
use Rattle.std.specs.List.{flat_map}
use Rattle.source_places.specs.Place.{IsPlace, begins_character}
use Rattle.source_places.specs.declared.place.Place.{Place}
use Rattle.bril_explain.specs.declared.located.Located.{Located}
use Rattle.bril_explain.specs.declared.located.Spot.{Spot}
use Rattle.bril_explain.specs.declared.located.Spot.TheVariants.{Byte, Keys, File}

-- the first line of a message at a place of a source: `PATH:LINE:COLUMN: error: PROBLEM`
abbrev pub headed : List ℕ → Place → List ℕ → List ℕ
headed path place problem =
    path ++ codes ":" ++ decimal place.line ++ codes ":" ++ decimal place.column ++ codes ": error: " ++ problem ++ codes "\n"

-- what stands below a byte of the line, before the caret
abbrev pub blank : ℕ → List ℕ
blank byte = if byte == 9 then 9 ∷ [] else (if begins_character byte then 32 ∷ [] else [])

-- the message at a byte that has this place: the line below it, a caret below the byte, and what would mend it
abbrev pub placed_message : (path source : List ℕ) (at : ℕ) (place : Place) (problem help : List ℕ) → List ℕ
placed_message path source at place problem help =
    headed path place problem ++ codes "  " ++ slice_range source place.from place.to ++ codes "\n  "
    ++ flat_map blank (slice_range source place.from at) ++ codes "^\nhelp: " ++ help ++ codes "\n"

-- the message says that this is wrong at a byte of a source, at its place
pub record IsByteMessage (path source : List ℕ) (at : ℕ) (problem help message : List ℕ) : Type 0 where
  pub place : Place
  pub is : IsPlace source at place
  pub are : message ≡ placed_message path source at place problem help

-- what is wrong, and what would mend it
abbrev pub rest_of : List ℕ → List ℕ → List ℕ
rest_of problem help = codes ": error: " ++ problem ++ codes "\nhelp: " ++ help ++ codes "\n"

-- the key of an item in a function
abbrev pub item_key : Option ℕ → List ℕ
item_key None = []
item_key (Some item) = codes ".instrs[" ++ decimal item ++ codes "]"

-- the message on a function of a JSON file, or an item of it, by the path of its keys
abbrev pub keys_message : List ℕ → ℕ → Option ℕ → List ℕ → List ℕ → List ℕ
keys_message path func item problem help = path ++ codes ": functions[" ++ decimal func ++ codes "]" ++ item_key item ++ rest_of problem help

-- the message on a file
abbrev pub file_message : List ℕ → List ℕ → List ℕ → List ℕ
file_message path problem help = path ++ rest_of problem help

-- a byte of a source is inside, or at its end
abbrev pub IsInside : Spot → Type 0
IsInside (Byte source at) = at ≤ length source
IsInside (Keys func item) = Unit {0}
IsInside File = Unit {0}

abbrev pub IsSpotMessage : List ℕ → Spot → List ℕ → List ℕ → List ℕ → Type 0
IsSpotMessage path (Byte source at) problem help message = IsByteMessage path source at problem help message
IsSpotMessage path (Keys func item) problem help message = message ≡ keys_message path func item problem help
IsSpotMessage path File problem help message = message ≡ file_message path problem help

-- the message says that this is wrong there
abbrev pub IsMessage : Located → List ℕ → List ℕ → List ℕ → Type 0
IsMessage located problem help message = IsSpotMessage located.path located.spot problem help message
