-- Paths that the imports of a file have, and what is known of them.
use Rattle.std.specs.Prelude.{ℕ, ◌≡◌, true, List, map}
use Rattle.import_linker.specs.Names.{contains}
use Rattle.import_linker.specs.Order.{file_at, is_known, joined}

-- beside each of the paths that imports of the file at the importer's path have stands the number of its file
abbrev pub AreNumbers : List (List ℕ) → List ℕ → List (List ℕ) → List ℕ → Type 0
AreNumbers known importer paths numbers = numbers ≡ map (λ path. file_at known (joined importer path)) paths

-- the files that these paths name in the file at the importer's path are known
abbrev pub AreKnown : List (List ℕ) → List ℕ → List (List ℕ) → Type 0
AreKnown known importer paths = (path : List ℕ) → contains paths path ≡ true → is_known (joined importer path) known ≡ true
