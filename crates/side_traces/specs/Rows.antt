-- Lists by points.
use Rattle.std.specs.Prelude.{ℕ, suc, List, [], ◌∷◌, ◌++◌, slice_index_or}

-- what a list of lists has at a point
abbrev pub row : {A : Type 0} → List (List A) → ℕ → List A
row rows i = slice_index_or rows i []

-- the items from point k on, each behind its row
abbrev pub with_rows : {A : Type 0} → (ℕ → List A) → ℕ → List A → List A
with_rows rows k [] = []
with_rows rows k (a ∷ items) = rows k ++ a ∷ with_rows rows (suc k) items
