-- Tables of the names of files.
use Rattle.std.specs.Prelude.{ℕ, ◌≡◌, not, List, [], ◌∷◌, Option, find, get_or, option_map}
use Rattle.std.specs.Option.{option_or}
use Rattle.bril_tree.specs.declared.import.Taken.{Taken}
use Rattle.import_linker.specs.Names.{Function, NameFault, callees, clash, contains, first_unknown, local_names, not_there, own_names, repeated_after, taken_of}
use Rattle.import_linker.specs.declared.sources.Source.{Source}

-- both lists have the same names
abbrev pub HaveSame : List (List ℕ) → List (List ℕ) → Type 0
HaveSame table names = (name : List ℕ) → contains table name ≡ contains names name

-- each table has the names of the own functions of the file beside it
abbrev pub AreTables : List (List (List ℕ)) → List Source → Type 0
AreTables [] [] = Unit {0}
AreTables [] (s ∷ sources) = ⊥
AreTables (table ∷ tables) [] = ⊥
AreTables (table ∷ tables) (s ∷ sources) = HaveSame table (own_names s) × AreTables tables sources

-- the first taken function whose name isn't one of these
abbrev pub first_outside : List (List ℕ) → List Taken → Option (List ℕ)
first_outside names taken = option_map (λ (t : Taken). t.name) (find (λ (t : Taken). not (contains names t.name)) taken)

-- the first function whose name isn't one of the table of its file
abbrev pub first_absent : List (List (List ℕ)) → List Function → Option (List ℕ)
first_absent tables functions = option_map (λ (f : Function). f.name) (find (λ (f : Function). not (contains (get_or tables f.file []) f.name)) functions)

-- the first fault of a file's names, by the tables of all files, and the path of the file
abbrev pub fault_by : List (List (List ℕ)) → List (List ℕ) → Source → Option (List ℕ × NameFault)
fault_by tables paths s =
    option_map (λ (fault : NameFault). (s.path, fault))
    (option_or (option_map clash (repeated_after [] (local_names s)))
    (option_or (option_map not_there (first_absent tables (taken_of paths s)))
    (option_map not_there (first_unknown (local_names s) (callees s.tree.funcs)))))
