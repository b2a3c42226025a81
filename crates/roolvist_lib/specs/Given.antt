-- What a call is given: bytes that are cut into pieces, of which the first are the words of a command line and the others files.
use Rattle.std.specs.Prelude.{ℕ, ◌≡◌, nat_le, Bool, true, false, ◌&&◌, List, [], ◌∷◌, length, take, drop, Option, Some, None, if◌then◌else◌}
use Rattle.std.specs.List.{list_all}
use Rattle.std.specs.Option.{option_map}
use Rattle.std.specs.Str.{bytes_eq, is_utf8}
use Rattle.bril_outside.specs.Files.{FileMap, FilesSeen}

-- the bytes cut into pieces of these lengths, one after another; none where they are too few. What is left over is in no piece
abbrev pub pieces_of : List ℕ → List ℕ → Option (List (List ℕ))
pieces_of bytes [] = Some []
pieces_of bytes (n ∷ lengths) = if nat_le n (length bytes) then option_map (λ pieces. take n bytes ∷ pieces) (pieces_of (drop n bytes) lengths) else None

-- the pieces are files: a path, which is UTF-8, and bytes, and so on
abbrev pub are_files : List (List ℕ) → Bool
are_files [] = true
are_files (path ∷ []) = false
are_files (path ∷ bytes ∷ rest) = is_utf8 path && are_files rest

-- the first pieces are so many words, each UTF-8, and the others files
abbrev pub fit : ℕ → List (List ℕ) → Bool
fit words pieces = nat_le words (length pieces) && (list_all is_utf8 (take words pieces) && are_files (drop words pieces))

-- The words of a command line, and files: a path, bytes, and so on.
pub record Given : Type 0 where
  pub words : List (List ℕ)
  pub files : List (List ℕ)

-- what the pieces are, where they fit
abbrev pub given_of : ℕ → Option (List (List ℕ)) → Option Given
given_of words None = None
given_of words (Some pieces) = if fit words pieces then Some (record { words = take words pieces; files = drop words pieces }) else None

-- what a call is given, of which so many pieces are words; none where the pieces don't fit
abbrev pub given_by : (bytes lengths : List ℕ) (words : ℕ) → Option Given
given_by bytes lengths words = given_of words (pieces_of bytes lengths)

-- the first of two that is there
abbrev pub first_of : Option (List ℕ) → Option (List ℕ) → Option (List ℕ)
first_of (Some bytes) other = Some bytes
first_of None other = other

-- the bytes at each path: of two files with one path the last
abbrev pub held : List (List ℕ) → FileMap
held [] path = None
held (name ∷ []) path = None
held (name ∷ bytes ∷ rest) path = first_of (held rest path) (if bytes_eq name path then Some bytes else None)

-- what is seen of the files before they are read
abbrev pub files_given : List (List ℕ) → FilesSeen
files_given files = record { holds = Some (held files); reads = Some 0; faults = 0 }

-- These words and what is seen of files are given.
pub record AreGiven (some : Option Given) (words : List (List ℕ)) (seen : FilesSeen) : Type 0 where
  pub files : List (List ℕ)
  pub is : some ≡ Some (record { words = words; files = files })
  pub files_are : seen ≡ files_given files
