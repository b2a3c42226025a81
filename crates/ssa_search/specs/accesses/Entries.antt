-- The entries of a function's labels: each leave point of each label once.
use Rattle.std.specs.Prelude.{◌≡◌, ◌≢◌, ◌⊎◌, ℕ, ◌<◌, Bool, true, false, List, [], ◌∷◌, Option, Some, None, slice_get}
use Rattle.std.specs.List.{AllPairs, Contains}
use Rattle.bril_tree.specs.declared.edge.Edge.{Edge}
use Rattle.bril_tree.specs.declared.numbered.Instr.{Instr}
use Rattle.bril_tree.specs.Leaving.{IsEdge}
use Rattle.ssa_search.specs.declared.accesses.entries.Entry.{Entry}
use Rattle.ssa_search.specs.placing.Wanted.{is_label}

-- An edge goes from the leave point to the point of a label. The start of the function counts as a leave point, None, with one
-- edge, to its first item.
abbrev pub EntersAt : List Instr → Option ℕ → ℕ → Type 0
EntersAt code None k = (is_label (slice_get code k) ≡ true) × (k ≡ 0)
EntersAt code (Some p) k = (is_label (slice_get code k) ≡ true) × ((edge : Edge) × IsEdge code edge × (edge.leave ≡ p) × (edge.to ≡ k))

-- They are the pairs of a leave point and a label that an edge joins, each once.
pub record AreEntriesOf (code : List Instr) (entries : List Entry) : Type 0 where
  pub differ : AllPairs (λ d e. d ≢ e) entries
  pub there : (leave : Option ℕ) (k : ℕ) → EntersAt code leave k → Contains entries (record { leave = leave; label = k })
  pub only : (entry : Entry) → Contains entries entry → EntersAt code entry.leave entry.label

-- ---- how they are found

abbrev pub entry_of : ℕ → ℕ → Entry
entry_of k p = record { leave = Some p; label = k }

-- that from the start, where a label stands at the first item
abbrev pub start_entries : Bool → List Entry
start_entries true = record { leave = None; label = 0 } ∷ []
start_entries false = []

-- the entries of the labels before a point
pub record AreEntriesBefore (code : List Instr) (bound : ℕ) (entries : List Entry) : Type 0 where
  pub differ : AllPairs (λ d e. d ≢ e) entries
  pub there : (leave : Option ℕ) (k : ℕ) → EntersAt code leave k → (k < bound) ⊎ (leave ≡ None) → Contains entries (record { leave = leave; label = k })
  pub only : (entry : Entry) → Contains entries entry → EntersAt code entry.leave entry.label × ((entry.label < bound) ⊎ (entry.leave ≡ None))
