-- The entry of a label, by its number.
use Rattle.std.proofs.Common.{◌≡◌, ◌⊎◌, inl, inr, ⊎_elim, ℕ, suc, ◌+◌, ◌≤◌, Bool, true, false, cond, List, [], ◌∷◌, ◌++◌, length, map, Option, Some, None, refl, sym, ap, ap₂, subst, ◌∙◌, arith}
use Rattle.std.specs.Prelude.{◌==◌, slice_set, slice_index_or}
use Rattle.std.specs.List.{All}
use Rattle.std.proofs.lemmas.Bool.{cases_eq, eqb-true}
use Rattle.std.proofs.lemmas.List.{get_or-set_other, get_or-set_same}
use Rattle.std.proofs.lemmas.List.Elements.{All-nil, All-cons, All-head, All-tail}
use Rattle.std.proofs.lemmas.Option.{same_Some}
use Rattle.bril_tree.specs.declared.numbered.Instr.TheVariants.{Label}
use Rattle.bril_tree.specs.declared.program.Prog.{Prog}
use Rattle.bril_tree.specs.State.{State}
use Rattle.bril_tree.specs.Step.{item_at}
use Rattle.trace_recorder.specs.declared.arrival.Arrival.{Arrival}
use Rattle.trace_recorder.specs.declared.kept.Kept.{Kept}
use Rattle.trace_recorder.specs.declared.parts.Parts.{Parts}
use Rattle.trace_recorder.specs.Sight.{Sight, sight, arrival}
use Rattle.trace_recorder.specs.Recorded.{counted, is_hot, no_counts}
use Rattle.trace_recorder.specs.Standing.{Held, held_at, held_on, count_in, StandsFor}
use Rattle.trace_recorder.specs.Counts.{IsCounted, AreOther, AreDistinct, AreFound, with_number}
use Rattle.trace_recorder.specs.Kept.{held_of, is_at, numbers_of, places_of, view_of, IsNumbered, IsSound}
use Rattle.trace_recorder.proofs.Appending.{counted_rises, counted_here}
use Rattle.trace_recorder.proofs.Counting.{place_counted, place_of, rows-other, rows-same}
use Rattle.trace_recorder.proofs.Shapes.{counted_as}
use Rattle.trace_recorder.proofs.Following.{IsPlaced, arrival_placed, held_each}
use Rattle.trace_recorder.proofs.OneEntry.{and_true}

-- ---- the entries of a run are of different labels

-- a label that was hot before isn't hot again
module _ (P : Prog) (hot : ℕ) (a : Arrival) where
  other_hot : (counts : ℕ → ℕ → ℕ) (o : Option Arrival) (b : Arrival) → hot ≤ counts a.func a.label → is_hot hot counts o ≡ Some b → AreOther a b
  other_hot counts None b h e = absurd (let n : None ≡ Some b = e in cc)
  other_hot counts (Some c) b h e = by (suc (counts c.func c.label) == hot) refl e
    where
      by : (t : Bool) → (suc (counts c.func c.label) == hot) ≡ t → cond t (Some c) None ≡ Some b → AreOther a b
      by true is e f l =
          let same : c ≡ b = same_Some c b e in
          let n : suc (counts c.func c.label) ≡ hot = eqb-true (suc (counts c.func c.label)) hot is in
          let m : counts c.func c.label ≡ counts a.func a.label = ap₂ counts (ap (λ (z : Arrival). z.func) same ∙ sym f) (ap (λ (z : Arrival). z.label) same ∙ sym l) in
          absurd (omega arith)
      by false is e f l = absurd (let n : None ≡ Some b = e in cc)

  later_other : (run : List (Option Sight)) (counts : ℕ → ℕ → ℕ) → hot ≤ counts a.func a.label → All (λ b. AreOther a b) (map (λ (h : Held). h.place) (held_on P hot counts run))
  later_other [] counts h = All-nil (λ b. AreOther a b)
  later_other (s ∷ run) counts h = by (is_hot hot counts (arrival s)) refl (later_other run (counted (arrival s) counts) (let r = counted_rises (arrival s) counts a.func a.label in omega arith))
    where
      by : (o : Option Arrival) → is_hot hot counts (arrival s) ≡ o → All (λ b. AreOther a b) (map (λ (h : Held). h.place) (held_on P hot (counted (arrival s) counts) run))
          → All (λ b. AreOther a b) (map (λ (h : Held). h.place) (held_at P o run ++ held_on P hot (counted (arrival s) counts) run))
      by None e rest = rest
      by (Some b) e rest = All-cons (λ b. AreOther a b) b (map (λ (h : Held). h.place) (held_on P hot (counted (arrival s) counts) run)) (other_hot counts (arrival s) b h e) rest

hot_counts : (hot : ℕ) (counts : ℕ → ℕ → ℕ) (o : Option Arrival) (a : Arrival) → is_hot hot counts o ≡ Some a → hot ≤ counted o counts a.func a.label
hot_counts hot counts None a e = absurd (let n : None ≡ Some a = e in cc)
hot_counts hot counts (Some b) a e = by (suc (counts b.func b.label) == hot) refl e
  where
    by : (t : Bool) → (suc (counts b.func b.label) == hot) ≡ t → cond t (Some b) None ≡ Some a → hot ≤ counted (Some b) counts a.func a.label
    by true is e = subst (λ c. hot ≤ counted (Some b) counts c.func c.label) (same_Some b a e) (let h = counted_here b counts in let n = eqb-true (suc (counts b.func b.label)) hot is in omega arith)
    by false is e = absurd (let n : None ≡ Some a = e in cc)

pub held_distinct : (P : Prog) (hot : ℕ) (run : List (Option Sight)) (counts : ℕ → ℕ → ℕ) → AreDistinct (map (λ (h : Held). h.place) (held_on P hot counts run))
held_distinct P hot [] counts = tt
held_distinct P hot (s ∷ run) counts = by (is_hot hot counts (arrival s)) refl (held_distinct P hot run (counted (arrival s) counts))
  where
    by : (o : Option Arrival) → is_hot hot counts (arrival s) ≡ o → AreDistinct (map (λ (h : Held). h.place) (held_on P hot (counted (arrival s) counts) run))
        → AreDistinct (map (λ (h : Held). h.place) (held_at P o run ++ held_on P hot (counted (arrival s) counts) run))
    by None e rest = rest
    by (Some a) e rest = (later_other P hot a run (counted (arrival s) counts) (hot_counts hot counts (arrival s) a e), rest)

-- ---- a number more

number_same : (rows : List (List ℕ)) (a : Arrival) (n : ℕ) → IsCounted rows a → count_in (with_number rows a n) a.func a.label ≡ n
number_same rows a n h =
    rows-same rows a.func a.label (slice_set (slice_index_or rows a.func []) a.label n) h.func ∙ get_or-set_same (slice_index_or rows a.func []) a.label n 0 h.label

number_other : (rows : List (List ℕ)) (a b : Arrival) (n : ℕ) → IsCounted rows a → AreOther b a → count_in (with_number rows a n) b.func b.label ≡ count_in rows b.func b.label
number_other rows a b n h other = by (cases_eq a.func b.func)
  where
    by : (a.func ≡ b.func) ⊎ (a.func ≡ b.func → ⊥) → count_in (with_number rows a n) b.func b.label ≡ count_in rows b.func b.label
    by (inl f) =
        ap (λ g. count_in (with_number rows a n) g b.label) (sym f)
        ∙ rows-same rows a.func b.label (slice_set (slice_index_or rows a.func []) a.label n) h.func
        ∙ get_or-set_other (slice_index_or rows a.func []) a.label b.label n 0 (λ e. other (sym f) e)
        ∙ ap (λ g. count_in rows g b.label) f
    by (inr f) = rows-other rows a.func b.func b.label (slice_set (slice_index_or rows a.func []) a.label n) f

found_other : (rows : List (List ℕ)) (a : Arrival) (m n : ℕ) (places : List Arrival) → IsCounted rows a → All (λ b. AreOther b a) places → AreFound rows n places → AreFound (with_number rows a m) n places
found_other rows a m n [] h all found = tt
found_other rows a m n (b ∷ places) h all found =
    (number_other rows a b m h (All-head (λ b. AreOther b a) b places all) ∙ found.0, found_other rows a m (suc n) places h (All-tail (λ b. AreOther b a) b places all) found.1)

found_one : (rows : List (List ℕ)) (a : Arrival) (m n : ℕ) (places : List Arrival) → m ≡ n + length places → count_in rows a.func a.label ≡ m → AreFound rows n places → AreFound rows n (places ++ a ∷ [])
found_one rows a m n [] e is found = (is ∙ (let h : m ≡ n = omega arith in h), tt)
found_one rows a m n (b ∷ places) e is found = (found.0, found_one rows a m (suc n) places (omega arith) is found.1)

distinct_first : (places : List Arrival) (a : Arrival) → AreDistinct (places ++ a ∷ []) → AreDistinct places × All (λ b. AreOther b a) places
distinct_first [] a d = (tt, All-nil (λ b. AreOther b a))
distinct_first (b ∷ places) a d =
    let rest = distinct_first places a d.1 in
    ((first_all b places a d.0, rest.0), All-cons (λ b. AreOther b a) b places (last_one b places a d.0) rest.1)
  where
    first_all : (b : Arrival) (places : List Arrival) (a : Arrival) → All (AreOther b) (places ++ a ∷ []) → All (AreOther b) places
    first_all b [] a all = All-nil (AreOther b)
    first_all b (c ∷ places) a all = All-cons (AreOther b) c places (All-head (AreOther b) c (places ++ a ∷ []) all) (first_all b places a (All-tail (AreOther b) c (places ++ a ∷ []) all))

    last_one : (b : Arrival) (places : List Arrival) (a : Arrival) → All (AreOther b) (places ++ a ∷ []) → AreOther b a
    last_one b [] a all = All-head (AreOther b) a [] all
    last_one b (c ∷ places) a all = last_one b places a (All-tail (AreOther b) c (places ++ a ∷ []) all)

pub found_more : (rows : List (List ℕ)) (a : Arrival) (places : List Arrival) → IsCounted rows a → (AreDistinct places → AreFound rows 1 places) → AreDistinct (places ++ a ∷ []) → AreFound (with_number rows a (suc (length places))) 1 (places ++ a ∷ [])
found_more rows a places h found d =
    let f = distinct_first places a d in
    found_one (with_number rows a (suc (length places))) a (suc (length places)) 1 places (omega arith) (number_same rows a (suc (length places)) h)
    (found_other rows a (suc (length places)) 1 places h f.1 (found f.0))

-- ---- the entry whose label is here

pub numbered : (P : Prog) (rows : List (List ℕ)) (a : Arrival) (n : ℕ) (held : List Kept) → IsPlaced P a → All (IsPlaced P) (map (λ k. k.named.place) held) → AreFound rows n (map (λ k. k.named.place) held)
    → IsNumbered a (count_in rows a.func a.label) n held
numbered P rows a n [] here all found = tt
numbered P rows a n (k ∷ held) here all found = (this, numbered P rows a (suc n) held here (All-tail (IsPlaced P) k.named.place (map (λ k. k.named.place) held) all) found.1)
  where
    this : is_at a k.named.place ≡ true → count_in rows a.func a.label ≡ n
    this at =
        let both = and_true (a.func == k.named.place.func) (a.point == k.named.place.point) at in
        let func = eqb-true a.func k.named.place.func both.0 in
        let point = eqb-true a.point k.named.place.point both.1 in
        let there = All-head (IsPlaced P) k.named.place (map (λ k. k.named.place) held) all in
        let same : Some (Label a.label) ≡ Some (Label k.named.place.label) = sym here ∙ ap₂ (item_at P) func point ∙ there in
        let label : a.label ≡ k.named.place.label = cc in
        ap₂ (count_in rows) func label ∙ found.0

places_all : (Is : Arrival → Type 0) (log : List Bool) (items laid : ℕ) (held : List Kept) → All (λ (h : Held). Is h.place) (map (held_of log items laid) held) → All Is (map (λ k. k.named.place) held)
places_all Is log items laid [] all = All-nil Is
places_all Is log items laid (k ∷ held) all =
    All-cons Is k.named.place (map (λ k. k.named.place) held) (All-head (λ (h : Held). Is h.place) (held_of log items laid k) (map (held_of log items laid) held) all)
    (places_all Is log items laid held (All-tail (λ (h : Held). Is h.place) (held_of log items laid k) (map (held_of log items laid) held) all))

places_held : (log : List Bool) (items laid : ℕ) (held : List Kept) → map (λ k. k.named.place) held ≡ map (λ (h : Held). h.place) (map (held_of log items laid) held)
places_held log items laid [] = refl
places_held log items laid (k ∷ held) = ap (λ l. k.named.place ∷ l) (places_held log items laid held)

module _ (p : Parts) (P : Prog) (hot most : ℕ) (run : List State) (sound : IsSound p) (stands : StandsFor (view_of p) P hot most run) where
  each : (Is : Arrival → Type 0) → ((st : State) (a : Arrival) → arrival (sight P st) ≡ Some a → Is a) → All Is (places_of p.paths)
  each Is of = places_all Is p.paths.log.items p.paths.items p.paths.laid p.paths.held.items (subst (All (λ (h : Held). Is h.place)) (sym stands.held) (held_each P hot Is of run no_counts))

  all_counted : All (IsCounted (numbers_of p)) (places_of p.paths)
  all_counted = ⊎_elim
      (λ empty. subst (λ (held : List Kept). All (IsCounted (numbers_of p)) (map (λ k. k.named.place) held)) (sym (sound.none empty)) (All-nil (IsCounted (numbers_of p))))
      (λ sized. each (IsCounted (numbers_of p)) (λ st a e. counted_as (view_of p).counts (numbers_of p) a (sym sound.sized) (place_counted P (view_of p).counts a sized (place_of P st a e))))
      stands.sized

  distinct : AreDistinct (places_of p.paths)
  distinct = subst AreDistinct (sym (places_held p.paths.log.items p.paths.items p.paths.laid p.paths.held.items ∙ ap (map (λ (h : Held). h.place)) stands.held)) (held_distinct P hot (map (sight P) run) no_counts)

  -- the table has the number of the entry whose label the arrival is at
  pub label_numbered : (st : State) (a : Arrival) → arrival (sight P st) ≡ Some a → IsNumbered a (count_in (numbers_of p) a.func a.label) 1 p.paths.held.items
  label_numbered st a e = numbered P (numbers_of p) a 1 p.paths.held.items (arrival_placed P st a e) (each (IsPlaced P) (arrival_placed P)) (sound.found distinct all_counted)
