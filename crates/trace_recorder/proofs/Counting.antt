-- Counts of arrivals.
use Rattle.std.proofs.Common.{◌≡◌, inl, inr, ℕ, zero, suc, ◌+◌, ◌-◌, ◌^◌, ◌<◌, min, ◌&&◌, Bool, true, false, cond, List, [], ◌∷◌, length, map, replicate, Option, Some, None, refl, sym, ap, ap₂, subst, ◌∙◌, arith}
use Rattle.std.specs.Prelude.{◌==◌, slice_get, slice_set, slice_index, slice_index_or}
use Rattle.std.proofs.lemmas.Bool.{eqb-true, eqb-false, eq-eqb, ne_eqb}
use Rattle.std.proofs.lemmas.List.{get_or-set_other, get_or-set_same, length-replicate, length-set}
use Rattle.std.proofs.lemmas.Option.{same_Some}
use Rattle.std.proofs.Math.Seq.{map-set_same}
use Rattle.bril_tree.specs.declared.numbered.Instr.{Instr}
use Rattle.bril_tree.specs.declared.numbered.Instr.TheVariants.{Label, Const, Act}
use Rattle.bril_tree.specs.declared.numbered_function.Func.{Func}
use Rattle.bril_tree.specs.declared.program.Prog.{Prog}
use Rattle.bril_tree.specs.Membership.{In}
use Rattle.bril_tree.specs.State.{Frame, State}
use Rattle.bril_tree.specs.Step.{item_at, items_of}
use Rattle.bril_tree.proofs.LabelPoints.{label_listed, range_high}
use Rattle.bril_interpreter.specs.Interpreter.{newest_frame}
use Rattle.trace_recorder.specs.declared.arrival.Arrival.{Arrival}
use Rattle.trace_recorder.specs.Sight.{sight, sight_in, sight_at, arrival}
use Rattle.trace_recorder.specs.Recorded.{counted, labels_of}
use Rattle.trace_recorder.specs.Standing.{count_in, HasCounts}
use Rattle.trace_recorder.specs.Counts.{zero_counts, IsPlaceOf, IsCounted, counted_in, counted_at, counts_from, AreFirst}

-- ---- the program has the label of an arrival

-- Such a function has the label.
record HasLabel (funcs : List Func) (f l : ℕ) : Type 0 where
  func : f < length funcs
  label : l < length (labels_of (slice_get funcs f))

label_in : (funcs : List Func) (f point l : ℕ) → slice_get (items_of (slice_get funcs f)) point ≡ Some (Label l) → HasLabel funcs f l
label_in [] f point l e = absurd (let h : None ≡ Some (Label l) = e in cc)
label_in (g ∷ funcs) zero point l e = record {
  func = omega arith;
  label = (let h = range_high 0 (length g.labels) l (subst (In l) g.formed.placed (label_listed g.code point l e)) in let k : l < length g.labels = omega arith in k);
}
label_in (g ∷ funcs) (suc f) point l e =
    let h = label_in funcs f point l e in
    let a = h.func in
    record { func = omega arith; label = h.label }

pub place_of : (P : Prog) (s : State) (a : Arrival) → arrival (sight P s) ≡ Some a → IsPlaceOf P a
place_of P s a e = by (newest_frame s) e
  where
    by_item : (frame : Frame) (o : Option Instr) → item_at P frame.function frame.point ≡ o → arrival (sight_at frame o) ≡ Some a → IsPlaceOf P a
    by_item frame None at e = absurd (let h : None ≡ Some a = e in cc)
    by_item frame (Some (Label l)) at e =
        let h = label_in P.funcs frame.function frame.point l at in
        let same = same_Some _ a e in
        subst (IsPlaceOf P) same (record { func = h.func; label = h.label })
    by_item frame (Some (Const d ty v)) at e = absurd (let h : None ≡ Some a = e in cc)
    by_item frame (Some (Act d ty o args fns ls)) at e = absurd (let h : None ≡ Some a = e in cc)

    by : (f : Option Frame) → arrival (sight_in P f) ≡ Some a → IsPlaceOf P a
    by None e = absurd (let h : None ≡ Some a = e in cc)
    by (Some frame) e = by_item frame (item_at P frame.function frame.point) refl e

-- ---- and so it has a count

lengths_place : (funcs : List Func) (counts : List (List ℕ)) (f l : ℕ) → map length counts ≡ map (λ (g : Func). length g.labels) funcs → f < length funcs → l < length (labels_of (slice_get funcs f))
    → (f < length counts) × (l < length (slice_index_or counts f []))
lengths_place [] counts f l e a b = absurd (omega arith)
lengths_place (g ∷ funcs) [] f l e a b = absurd (let h : [] ≡ length g.labels ∷ map (λ (g : Func). length g.labels) funcs = e in cc)
lengths_place (g ∷ funcs) (row ∷ counts) zero l e a b =
    let h : length row ∷ map length counts ≡ length g.labels ∷ map (λ (g : Func). length g.labels) funcs = e in
    let first : length row ≡ length g.labels = cc in
    (omega arith, omega arith)
lengths_place (g ∷ funcs) (row ∷ counts) (suc f) l e a b =
    let h : length row ∷ map length counts ≡ length g.labels ∷ map (λ (g : Func). length g.labels) funcs = e in
    let rest : map length counts ≡ map (λ (g : Func). length g.labels) funcs = cc in
    let r = lengths_place funcs counts f l rest (omega arith) b in
    let r0 = r.0 in
    (omega arith, r.1)

pub place_counted : (P : Prog) (counts : List (List ℕ)) (a : Arrival) → map length counts ≡ map (λ (g : Func). length g.labels) P.funcs → IsPlaceOf P a → IsCounted counts a
place_counted P counts a e p = let r = lengths_place P.funcs counts a.func a.label e p.func p.label in record { func = r.0; label = r.1 }

-- ---- the first counts

zeros-read : (n l : ℕ) → slice_index (replicate n 0) l ≡ 0
zeros-read zero l = refl
zeros-read (suc n) zero = refl
zeros-read (suc n) (suc l) = zeros-read n l

zero-counts : (funcs : List Func) (f l : ℕ) → count_in (zero_counts funcs) f l ≡ 0
zero-counts [] f l = refl
zero-counts (g ∷ funcs) zero l = zeros-read (length g.labels) l
zero-counts (g ∷ funcs) (suc f) l = zero-counts funcs f l

zero-sized : (funcs : List Func) → map length (zero_counts funcs) ≡ map (λ (g : Func). length g.labels) funcs
zero-sized [] = refl
zero-sized (g ∷ funcs) = ap₂ (λ n (ns : List ℕ). n ∷ ns) (length-replicate (length g.labels) 0) (zero-sized funcs)

pub first_read : (P : Prog) (counts : List (List ℕ)) (first : Option (List (List ℕ))) → AreFirst P counts first → (f l : ℕ) → count_in (counts_from first counts) f l ≡ count_in counts f l
first_read P counts None a f l = refl
first_read P counts (Some t) a f l = ap (λ (z : List (List ℕ)). count_in z f l) a.1 ∙ zero-counts P.funcs f l ∙ ap (λ (z : List (List ℕ)). count_in z f l) (sym a.0)

pub first_sized : (P : Prog) (counts : List (List ℕ)) (first : Option (List (List ℕ))) → AreFirst P counts first → HasCounts P counts → map length (counts_from first counts) ≡ map (λ (g : Func). length g.labels) P.funcs
first_sized P counts None a (inl e) = absurd (a e)
first_sized P counts None a (inr e) = e
first_sized P counts (Some t) a sized = ap (map length) a.1 ∙ zero-sized P.funcs

-- ---- one arrival more

pub rows-same : (rows : List (List ℕ)) (f l : ℕ) (row : List ℕ) → f < length rows → count_in (slice_set rows f row) f l ≡ slice_index row l
rows-same rows f l row h = ap (λ (r : List ℕ). slice_index r l) (get_or-set_same rows f row [] h)

pub rows-other : (rows : List (List ℕ)) (f g l : ℕ) (row : List ℕ) → (f ≡ g → ⊥) → count_in (slice_set rows f row) g l ≡ count_in rows g l
rows-other rows f g l row n = ap (λ (r : List ℕ). slice_index r l) (get_or-set_other rows f g row [] (λ e. n (sym e)))

-- the counts are those of a run, up to the end of their type
module _ (counts : List (List ℕ)) (a : Arrival) (real : ℕ → ℕ → ℕ) (here : IsCounted counts a) (are : (f l : ℕ) → count_in counts f l ≡ min (real f l) (2 ^ 32 - 1)) where
  more : (f l : ℕ) (b d : Bool) → (a.func == f) ≡ b → (a.label == l) ≡ d → count_in (counted_in counts a) f l ≡ min (cond (b && d) (suc (real f l)) (real f l)) (2 ^ 32 - 1)
  more f l true true eb ed =
      let sf : a.func ≡ f = eqb-true a.func f eb in
      let sl : a.label ≡ l = eqb-true a.label l ed in
      ap₂ (λ g m. count_in (counted_in counts a) g m) (sym sf) (sym sl)
      ∙ rows-same counts a.func a.label (slice_set (slice_index_or counts a.func []) a.label (min (count_in counts a.func a.label + 1) (2 ^ 32 - 1))) here.func
      ∙ get_or-set_same (slice_index_or counts a.func []) a.label (min (count_in counts a.func a.label + 1) (2 ^ 32 - 1)) 0 here.label
      ∙ ap (λ n. min (n + 1) (2 ^ 32 - 1)) (are a.func a.label)
      ∙ one (real a.func a.label)
      ∙ ap₂ (λ g m. min (suc (real g m)) (2 ^ 32 - 1)) sf sl
    where
      one : (n : ℕ) → min (min n (2 ^ 32 - 1) + 1) (2 ^ 32 - 1) ≡ min (suc n) (2 ^ 32 - 1)
      one n = omega arith
  more f l true false eb ed =
      let sf : a.func ≡ f = eqb-true a.func f eb in
      ap (λ g. count_in (counted_in counts a) g l) (sym sf)
      ∙ rows-same counts a.func l (slice_set (slice_index_or counts a.func []) a.label (min (count_in counts a.func a.label + 1) (2 ^ 32 - 1))) here.func
      ∙ get_or-set_other (slice_index_or counts a.func []) a.label l (min (count_in counts a.func a.label + 1) (2 ^ 32 - 1)) 0 (λ e. eqb-false a.label l ed (sym e))
      ∙ are a.func l ∙ ap (λ g. min (real g l) (2 ^ 32 - 1)) sf
  more f l false d eb ed =
      rows-other counts a.func f l (slice_set (slice_index_or counts a.func []) a.label (min (count_in counts a.func a.label + 1) (2 ^ 32 - 1))) (eqb-false a.func f eb) ∙ are f l

  pub counted_more : (f l : ℕ) → count_in (counted_in counts a) f l ≡ min (counted (Some a) real f l) (2 ^ 32 - 1)
  counted_more f l = more f l (a.func == f) (a.label == l) refl refl

-- the lengths stay
pub counted_sized : (counts : List (List ℕ)) (a : Option Arrival) → map length (counted_at counts a) ≡ map length counts
counted_sized counts None = refl
counted_sized counts (Some a) =
    let row = slice_set (slice_index_or counts a.func []) a.label (min (count_in counts a.func a.label + 1) (2 ^ 32 - 1)) in
    map-set_same length counts a.func row [] (length-set (slice_index_or counts a.func []) a.label (min (count_in counts a.func a.label + 1) (2 ^ 32 - 1)))

-- where a count stays at its end the label is hot no more
pub hot_same : (n hot : ℕ) → hot < 2 ^ 32 → (suc (min n (2 ^ 32 - 1)) == hot) ≡ (suc n == hot)
hot_same n hot less = by (suc n == hot) refl
  where
    by : (b : Bool) → (suc n == hot) ≡ b → (suc (min n (2 ^ 32 - 1)) == hot) ≡ b
    by true e = eq-eqb (suc (min n (2 ^ 32 - 1))) hot (let h : suc n ≡ hot = eqb-true (suc n) hot e in omega arith)
    by false e = ne_eqb (suc (min n (2 ^ 32 - 1))) hot (λ same. eqb-false (suc n) hot e (omega arith))
