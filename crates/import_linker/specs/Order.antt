-- The files of a program, in the order in which they are first named.
use Rattle.std.specs.Prelude.{ℕ, ◌==◌, ◌||◌, Bool, false, List, [], ◌∷◌, ◌++◌, map, fold, flat_map, bytes_eq, if◌then◌else◌}
use Rattle.std.specs.List.{list_any, position_or_len}
use Rattle.bril_tree.specs.declared.import.Import.{Import}
use Rattle.import_linker.specs.declared.sources.Source.{Source}

-- a program has at most so many files
abbrev pub most_files : ℕ
most_files = 256

-- ---- the path that an import names

abbrev pub is_slash : ℕ → Bool
is_slash byte = byte == 47

-- the path up to its last `/`, with it; nothing where it has none
abbrev pub folder_of : List ℕ → List ℕ
folder_of [] = []
folder_of (byte ∷ bytes) = if is_slash byte || list_any is_slash bytes then byte ∷ folder_of bytes else []

abbrev pub begins_at_root : List ℕ → Bool
begins_at_root [] = false
begins_at_root (byte ∷ bytes) = is_slash byte

-- The path stands as it is where it begins with `/`, and else after the folder of the file that imports it.
abbrev pub joined : List ℕ → List ℕ → List ℕ
joined importer path = if begins_at_root path then path else folder_of importer ++ path

-- the paths that imports name in the file at a path
abbrev pub named_in : List ℕ → List Import → List (List ℕ)
named_in importer imports = map (λ (i : Import). joined importer i.path) imports

abbrev pub named_by : Source → List (List ℕ)
named_by s = named_in s.path s.tree.imports

-- ---- files by number

abbrev pub is_known : List ℕ → List (List ℕ) → Bool
is_known path known = list_any (bytes_eq path) known

-- a path that isn't known comes last
abbrev pub added : List (List ℕ) → List ℕ → List (List ℕ)
added known path = if is_known path known then known else known ++ path ∷ []

abbrev pub all_added : List (List ℕ) → List (List ℕ) → List (List ℕ)
all_added known paths = fold added known paths

-- The paths of files by number, where these files were read: the root, then all that they name, in order.
abbrev pub known_after : List ℕ → List Source → List (List ℕ)
known_after root done = all_added (root ∷ []) (flat_map named_by done)

-- the number of the file at a path, and the number of all where none is there
abbrev pub file_at : List (List ℕ) → List ℕ → ℕ
file_at paths path = position_or_len (bytes_eq path) paths
