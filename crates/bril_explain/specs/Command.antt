-- What the words of a command line ask for.
use Rattle.std.specs.Prelude.{ℕ, ◌==◌, ◌&&◌, ◌||◌, Bool, false, not, nat_le, List, [], ◌∷◌, length, Option, Some, None, bytes_eq, codes, slice_get}

abbrev pub given : Option (List ℕ) → List ℕ
given None = []
given (Some word) = word

-- the word at a place, empty where there is none
abbrev pub word : List (List ℕ) → ℕ → List ℕ
word words place = given (slice_get words place)

abbrev pub is_option : List ℕ → Bool
is_option [] = false
is_option (byte ∷ bytes) = byte == 45

-- one word behind the program's name, which is a file
abbrev pub asks_explain : List (List ℕ) → Bool
asks_explain words = (length words == 2) && not (is_option (word words 1))

-- `--status` and a line
abbrev pub asks_status : List (List ℕ) → Bool
asks_status words = (length words == 3) && bytes_eq (word words 1) (codes "--status")

-- `--count`, a file, and perhaps `--` and arguments
abbrev pub asks_count : List (List ℕ) → Bool
asks_count words =
    nat_le 3 (length words) && (bytes_eq (word words 1) (codes "--count") && ((length words == 3) || bytes_eq (word words 3) (codes "--")))
