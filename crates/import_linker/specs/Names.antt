-- What a name of a function stands for in a file, and what is wrong with the names of a file.
use Rattle.std.specs.Prelude.{ℕ, not, Bool, List, [], ◌∷◌, ◌++◌, map, flat_map, Option, Some, None, find, option_map, slice_get, bytes_eq, if◌then◌else◌, unwrap_or, ◌+◌}
use Rattle.std.specs.List.{list_any}
use Rattle.std.specs.Option.{option_map_or, option_or}
use Rattle.bril_tree.specs.declared.function_tree.FuncTree.{FuncTree}
use Rattle.bril_tree.specs.declared.function_tree.Item.{Item}
use Rattle.bril_tree.specs.declared.function_tree.Item.TheVariants as item
use Rattle.bril_tree.specs.declared.import.Import.{Import}
use Rattle.bril_tree.specs.declared.import.Taken.{Taken}
use Rattle.import_linker.specs.Order.{file_at, joined}
use Rattle.import_linker.specs.declared.sources.Source.{Source}

-- ---- the functions of a program

-- a function: the number of its file, and its name there
pub record Function : Type 0 where
  pub file : ℕ
  pub name : List ℕ

-- the names of functions
abbrev pub function_names : List FuncTree → List (List ℕ)
function_names functions = map (λ (f : FuncTree). f.name) functions

-- the names of a file's own functions
abbrev pub own_names : Source → List (List ℕ)
own_names s = function_names s.tree.funcs

-- the paths of files
abbrev pub paths_of : List Source → List (List ℕ)
paths_of sources = map (λ (s : Source). s.path) sources

-- the function that an import takes
abbrev pub taken_function : ℕ → Taken → Function
taken_function file t = record { file = file; name = t.name }

-- the functions that an import takes from the file of a number
abbrev pub taken_functions : ℕ → List Taken → List Function
taken_functions file taken = map (taken_function file) taken

-- the functions that an import of the file at a path takes
abbrev pub functions_of : List (List ℕ) → List ℕ → Import → List Function
functions_of paths importer i = taken_functions (file_at paths (joined importer i.path)) i.names

-- the functions that a file takes, in order
abbrev pub taken_of : List (List ℕ) → Source → List Function
taken_of paths s = flat_map (functions_of paths s.path) s.tree.imports

-- the functions that functions are, in the file of a number
abbrev pub own_functions : ℕ → List FuncTree → List Function
own_functions number functions = map (λ (f : FuncTree). record { file = number; name = f.name }) functions

-- the name that a taken function has here
abbrev pub local_name : Taken → List ℕ
local_name t = unwrap_or t.alias t.name

-- the names that taken functions have here
abbrev pub names_taken : List Taken → List (List ℕ)
names_taken taken = map local_name taken

-- the names in a file, imports before functions and each in order
abbrev pub local_names : Source → List (List ℕ)
local_names s = flat_map (λ (i : Import). names_taken i.names) s.tree.imports ++ own_names s

-- the functions that these names stand for, in the same order
abbrev pub meanings : List (List ℕ) → ℕ → Source → List Function
meanings paths number s = taken_of paths s ++ own_functions number s.tree.funcs

-- ---- what is wrong with the names of a file

-- what is wrong with a name: two functions have it, or it is the name of none
pub data NameFault : Type 0 where
  clash : List ℕ → NameFault
  not_there : List ℕ → NameFault

abbrev pub contains : List (List ℕ) → List ℕ → Bool
contains names name = list_any (bytes_eq name) names

-- the first name that stands before it, too
abbrev pub repeated_after : List (List ℕ) → List (List ℕ) → Option (List ℕ)
repeated_after before [] = None
repeated_after before (name ∷ names) = if contains before name then Some name else repeated_after (before ++ name ∷ []) names

-- the names of the own functions of the file of a number
abbrev pub names_at : List Source → ℕ → List (List ℕ)
names_at sources number = option_map_or own_names (slice_get sources number) []

-- a file of this number has a function of this name of its own
abbrev pub is_there : List Source → Function → Bool
is_there sources f = contains (names_at sources f.file) f.name

-- the first of these functions that isn't there, by its name in its own file
abbrev pub first_lacking : List Source → List Function → Option (List ℕ)
first_lacking sources functions = option_map (λ (f : Function). f.name) (find (λ f. not (is_there sources f)) functions)

-- the functions that an item names
abbrev pub callees_of : Item → List (List ℕ)
callees_of (item.Label name) = []
callees_of (item.Const dest ty value) = []
callees_of (item.Act dest op args funcs labels) = funcs

-- the functions that items name, in order
abbrev pub item_callees : List Item → List (List ℕ)
item_callees items = flat_map callees_of items

-- the functions that the items of functions name, in order
abbrev pub callees : List FuncTree → List (List ℕ)
callees functions = flat_map (λ (f : FuncTree). item_callees f.code) functions

-- the first name that isn't one of the known
abbrev pub first_unknown : List (List ℕ) → List (List ℕ) → Option (List ℕ)
first_unknown known names = find (λ name. not (contains known name)) names

-- The first fault of a file's names: a repeated name, a taken function that isn't there, an operand that stands for no function.
abbrev pub name_fault : List Source → ℕ → Source → Option NameFault
name_fault sources number s =
    option_or (option_map clash (repeated_after [] (local_names s)))
    (option_or (option_map not_there (first_lacking sources (taken_of (paths_of sources) s)))
    (option_map not_there (first_unknown (local_names s) (callees s.tree.funcs))))

-- the path of a file with a fault of its names, and the fault
abbrev pub fault_of : List Source → ℕ → Source → Option (List ℕ × NameFault)
fault_of sources number s = option_map (λ fault. (s.path, fault)) (name_fault sources number s)

-- the first file with a fault of its names, and the fault; the files are numbered from this number
abbrev pub fault_from : List Source → ℕ → List Source → Option (List ℕ × NameFault)
fault_from sources number [] = None
fault_from sources number (s ∷ rest) = option_or (fault_of sources number s) (fault_from sources (number + 1) rest)
