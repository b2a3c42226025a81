-- Tables of one shape.
use Rattle.std.proofs.Common.{◌≡◌, ℕ, zero, suc, ◌<◌, List, [], ◌∷◌, length, map, refl, arith}
use Rattle.std.specs.Prelude.{slice_index_or}
use Rattle.std.specs.List.{All}
use Rattle.std.proofs.lemmas.List.Elements.{All-nil, All-cons, All-head, All-tail}
use Rattle.trace_recorder.specs.declared.arrival.Arrival.{Arrival}
use Rattle.trace_recorder.specs.Counts.{IsCounted}

pub no_rows : (rows : List (List ℕ)) → map length rows ≡ [] → rows ≡ []
no_rows [] e = refl
no_rows (row ∷ rows) e = absurd (let h : length row ∷ map length rows ≡ [] = e in cc)

row_place : (rows others : List (List ℕ)) (f l : ℕ) → map length rows ≡ map length others → f < length rows → l < length (slice_index_or rows f []) → (f < length others) × (l < length (slice_index_or others f []))
row_place [] others f l e a b = absurd (omega arith)
row_place (row ∷ rows) [] f l e a b = absurd (let h : length row ∷ map length rows ≡ [] = e in cc)
row_place (row ∷ rows) (other ∷ others) zero l e a b =
    let h : length row ∷ map length rows ≡ length other ∷ map length others = e in
    let same : length row ≡ length other = cc in
    (omega arith, omega arith)
row_place (row ∷ rows) (other ∷ others) (suc f) l e a b =
    let h : length row ∷ map length rows ≡ length other ∷ map length others = e in
    let rest : map length rows ≡ map length others = cc in
    let r = row_place rows others f l rest (omega arith) b in
    let r0 = r.0 in
    (omega arith, r.1)

pub counted_as : (rows others : List (List ℕ)) (a : Arrival) → map length rows ≡ map length others → IsCounted rows a → IsCounted others a
counted_as rows others a e h = let r = row_place rows others a.func a.label e h.func h.label in record { func = r.0; label = r.1 }

pub all_counted_as : (rows others : List (List ℕ)) (places : List Arrival) → map length rows ≡ map length others → All (IsCounted rows) places → All (IsCounted others) places
all_counted_as rows others [] e all = All-nil (IsCounted others)
all_counted_as rows others (a ∷ places) e all =
    All-cons (IsCounted others) a places (counted_as rows others a e (All-head (IsCounted rows) a places all)) (all_counted_as rows others places e (All-tail (IsCounted rows) a places all))
