-- Counts of arrivals, by function and label.
use Rattle.std.specs.Prelude.{◌≡◌, ℕ, suc, All, ◌∷◌, ◌+◌, ◌-◌, ◌^◌, ◌<◌, List, [], length, map, min, replicate, Option, Some, None, slice_get, slice_index_or, slice_set}
use Rattle.bril_tree.specs.declared.numbered_function.Func.{Func}
use Rattle.bril_tree.specs.declared.program.Prog.{Prog}
use Rattle.trace_recorder.specs.declared.arrival.Arrival.{Arrival}
use Rattle.trace_recorder.specs.Recorded.{labels_of}
use Rattle.trace_recorder.specs.Standing.{count_in}

abbrev pub zero_counts : List Func → List (List ℕ)
zero_counts funcs = map (λ (f : Func). replicate (length f.labels) 0) funcs

-- The program has the label of an arrival.
pub record IsPlaceOf (P : Prog) (a : Arrival) : Type 0 where
  pub func : a.func < length P.funcs
  pub label : a.label < length (labels_of (slice_get P.funcs a.func))

-- The label of an arrival has a count.
pub record IsCounted (counts : List (List ℕ)) (a : Arrival) : Type 0 where
  pub func : a.func < length counts
  pub label : a.label < length (slice_index_or counts a.func [])

-- the label of the arrival has this number
abbrev pub with_number : List (List ℕ) → Arrival → ℕ → List (List ℕ)
with_number rows a n = slice_set rows a.func (slice_set (slice_index_or rows a.func []) a.label n)

-- with the arrival, a count stays at 2^32 - 1
abbrev pub counted_in : List (List ℕ) → Arrival → List (List ℕ)
counted_in counts a = with_number counts a (min (count_in counts a.func a.label + 1) (2 ^ 32 - 1))

abbrev pub counted_at : List (List ℕ) → Option Arrival → List (List ℕ)
counted_at counts None = counts
counted_at counts (Some a) = counted_in counts a

-- the first counts, where these are made
abbrev pub counts_from : Option (List (List ℕ)) → List (List ℕ) → List (List ℕ)
counts_from None counts = counts
counts_from (Some first) counts = first

-- the first counts are made where there are none
abbrev pub AreFirst : Prog → List (List ℕ) → Option (List (List ℕ)) → Type 0
AreFirst P counts None = counts ≡ [] → ⊥
AreFirst P counts (Some first) = (counts ≡ []) × (first ≡ zero_counts P.funcs)

-- ---- the numbers of entries

-- they are at different labels
abbrev pub AreOther : Arrival → Arrival → Type 0
AreOther a b = a.func ≡ b.func → a.label ≡ b.label → ⊥

abbrev pub AreDistinct : List Arrival → Type 0
AreDistinct [] = Unit {0}
AreDistinct (a ∷ places) = All (AreOther a) places × AreDistinct places

-- the table has the number of each, the first one's being this
abbrev pub AreFound : List (List ℕ) → (number : ℕ) → List Arrival → Type 0
AreFound rows number [] = Unit {0}
AreFound rows number (a ∷ places) = (count_in rows a.func a.label ≡ number) × AreFound rows (suc number) places
