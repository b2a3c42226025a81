-- What becomes of the entries that were begun.
use Rattle.std.proofs.Common.{◌≡◌, ◌⊎◌, inl, inr, ℕ, zero, suc, ◌+◌, ◌-◌, ◌*◌, ◌^◌, ◌<◌, ◌≤◌, ◌&&◌, ◌||◌, Bool, true, false, true≢false, List, [], ◌∷◌, ◌++◌, length, map, get_or, Option, Some, None, refl, sym, ap, ap₂, subst, ◌∙◌, arith, ⊎_elim}
use Rattle.std.specs.Prelude.{nat_le, slice_get, slice_set}
use Rattle.std.specs.List.{All}
use Rattle.std.proofs.lemmas.Bool.{cases_lt, leb-false, lt-leb}
use Rattle.std.proofs.lemmas.List.{length_push}
use Rattle.std.proofs.lemmas.List.Elements.{All-nil, All-cons, All-head, All-tail, All-append}
use Rattle.std.proofs.lemmas.Option.{same_Some, slice_get-get_or}
use Rattle.trace_recorder.specs.declared.arrival.Arrival.{Arrival}
use Rattle.trace_recorder.specs.declared.kept.Kept.{Kept}
use Rattle.trace_recorder.specs.declared.passing.Passing.{Passing}
use Rattle.trace_recorder.specs.declared.passing.Passing.TheVariants.{Stops, Over, Lays, Turns}
use Rattle.trace_recorder.specs.Passings.{stops_at, lays_at, laid_at, chosen_at}
use Rattle.trace_recorder.specs.Kept.{end_or, closed, closed_if, has_end, ends_at, has_ended, ending, is_at, ClosesSome, IsNumbered, IsOpen, IsKept, AreBehind, AreInOrder, AreEnded, AreParted, AreKept}
use Rattle.trace_recorder.proofs.OneEntry.{or_false, survives}

-- ---- one entry

pub closed_ended : (n : ℕ) (k : Kept) → has_end k.end ≡ true → closed n k ≡ k
closed_ended n k e = by k.end refl e
  where
    by : (o : Option ℕ) → k.end ≡ o → has_end o ≡ true → closed n k ≡ k
    by None is e = absurd (true≢false (sym e))
    by (Some end) is e =
        let same : Some (end_or k.end n) ≡ k.end = ap (λ o. Some (end_or o n)) is ∙ sym is in
        λ i. record { named = k.named; items = k.items; laid = k.laid; start = k.start; end = same i }

pub kept_closed : (long items laid : ℕ) (k : Kept) → IsKept long items laid k → IsKept long items laid (closed long k)
kept_closed long items laid k h = record {
  within = record { start = h.within.start; end = h.within.end };
  items_before = h.items_before;
  laid_before = h.laid_before;
  goes = by k.end h.goes;
}
  where
    by : (o : Option ℕ) → IsOpen long items laid k o → end_or o long ≤ k.start + 256
    by None goes = let a = goes.0 in let b = goes.2 in omega arith
    by (Some end) goes = goes

chosen_few : (p : Passing) → length (chosen_at p) ≤ laid_at p
chosen_few Stops = omega arith
chosen_few Over = omega arith
chosen_few Lays = omega arith
chosen_few (Turns c) = omega arith

pub laid_few : (p : Passing) → laid_at p ≤ 1
laid_few Stops = omega arith
laid_few Over = omega arith
laid_few Lays = omega arith
laid_few (Turns c) = omega arith

-- over a state that it doesn't end at
kept_more : (p : Passing) (long items laid : ℕ) (k : Kept) → IsKept long items laid k → (has_end k.end ≡ false → ends_at p items laid k ≡ false) → IsKept (long + length (chosen_at p)) (suc items) (laid + laid_at p) k
kept_more p long items laid k h goes_on =
    let w = within_more k.end h.within.start h.within.end in
    let a = h.items_before in
    let b = h.laid_before in
    record {
      within = record { start = w.0; end = w.1 };
      items_before = omega arith;
      laid_before = omega arith;
      goes = by k.end h.goes goes_on;
    }
  where
    within_more : (o : Option ℕ) → k.start ≤ end_or o long → end_or o long ≤ long → (k.start ≤ end_or o (long + length (chosen_at p))) × (end_or o (long + length (chosen_at p)) ≤ long + length (chosen_at p))
    within_more None a b = (omega arith, omega arith)
    within_more (Some end) a b = (a, omega arith)

    by : (o : Option ℕ) → IsOpen long items laid k o → (has_end o ≡ false → ends_at p items laid k ≡ false) → IsOpen (long + length (chosen_at p)) (suc items) (laid + laid_at p) k o
    by None goes on =
        let a = goes.0 in
        let on' = survives p items laid k goes.2 (on refl) in
        let b = on'.met in
        let c = on'.lays in
        let d = chosen_few p in
        (omega arith, omega arith, omega arith)
    by (Some end) goes on = goes

-- ---- all entries

pub length-ending : (end n : ℕ) (held : List Kept) → length (ending end n held) ≡ length held
length-ending end zero held = refl
length-ending end (suc n) [] = refl
length-ending end (suc n) (k ∷ held) = ap suc (length-ending end n held)

places-ending : {X : Type 0} (f : Kept → X) → ((end : ℕ) (k : Kept) → f (closed end k) ≡ f k) → (end n : ℕ) (held : List Kept) → map f (ending end n held) ≡ map f held
places-ending f same end zero held = refl
places-ending f same end (suc n) [] = refl
places-ending f same end (suc n) (k ∷ held) = ap₂ (λ x xs. x ∷ xs) (same end k) (places-ending f same end n held)

pub ending_places : (end n : ℕ) (held : List Kept) → map (λ k. k.named.place) (ending end n held) ≡ map (λ k. k.named.place) held
ending_places end n held = places-ending (λ k. k.named.place) (λ end k. refl) end n held

-- those that have ended stay
pub ending_ended : (end n : ℕ) (held : List Kept) → AreEnded n held → ending end n held ≡ held
ending_ended end zero held e = refl
ending_ended end (suc n) [] e = refl
ending_ended end (suc n) (k ∷ held) e = ap₂ (λ (x : Kept) (xs : List Kept). x ∷ xs) (closed_ended end k e.0) (ending_ended end n held e.1)

-- one more of them
ending_more : (end n : ℕ) (held : List Kept) (k : Kept) → slice_get (ending end n held) n ≡ Some k → slice_set (ending end n held) n (closed end k) ≡ ending end (suc n) held
ending_more end zero [] k e = absurd (let h : None ≡ Some k = e in cc)
ending_more end zero (j ∷ held) k e = ap (λ z. closed end z ∷ held) (sym (same_Some j k e))
ending_more end (suc n) [] k e = absurd (let h : None ≡ Some k = e in cc)
ending_more end (suc n) (j ∷ held) k e = ap (λ l. closed end j ∷ l) (ending_more end n held k e)

pub ending_next : (end n : ℕ) (now held : List Kept) (k new : Kept) → now ≡ ending end n held → n < length now → k ≡ get_or now n k → new ≡ closed end k → slice_set now n new ≡ ending end (n + 1) held
ending_next end n now held k new is less at made =
    let here : slice_get now n ≡ Some k = slice_get-get_or now n k less ∙ ap Some (sym at) in
    let one : suc n ≡ n + 1 = omega arith in
    ap₂ (λ l j. slice_set l n j) is made ∙ ending_more end n held k (ap (λ l. slice_get l n) (sym is) ∙ here) ∙ ap (λ m. ending end m held) one

-- fewer of those that have ended
fewer_ended : (m n : ℕ) (held : List Kept) → m ≤ n → AreEnded n held → AreEnded m held
fewer_ended zero n held h e = tt
fewer_ended (suc m) zero held h e = absurd (omega arith)
fewer_ended (suc m) (suc n) [] h e = e
fewer_ended (suc m) (suc n) (k ∷ held) h e = (e.0, fewer_ended m n held (omega arith) e.1)

pub ended_long : (n : ℕ) (held : List Kept) → AreEnded n held → n ≤ length held
ended_long zero held e = omega arith
ended_long (suc n) [] e = absurd e
ended_long (suc n) (k ∷ held) e = let r = ended_long n held e.1 in omega arith

-- up to a front, from one where all before have ended
pub ending_until : (end from front last : ℕ) (held : List Kept) → AreEnded from held → front ≤ last → from ≤ last → (from ≤ front → last ≡ front) → (front < from → last ≡ from) → ending end last held ≡ ending end front held
ending_until end from front last held e a b up down = ⊎_elim
    (λ less. ap (λ m. ending end m held) (down less) ∙ ending_ended end from held e ∙ sym (ending_ended end front held (fewer_ended front from held (omega arith) e)))
    (λ more. ap (λ m. ending end m held) (up more))
    (cases_lt front from)

-- where the first ones have ended or end here, all that end here do
pub ending_parted : (p : Passing) (items laid end n : ℕ) (held : List Kept) → AreParted p items laid n held → ending end n held ≡ map (λ k. closed_if (has_ended p items laid k) end k) held
ending_parted p items laid end zero [] h = refl
ending_parted p items laid end zero (k ∷ held) h = ap₂ (λ (x : Kept) (xs : List Kept). x ∷ xs) (sym (ap (λ t. closed_if t end k) h.0)) (later held h.1)
  where
    one : (k : Kept) → ends_at p items laid k ≡ false → k ≡ closed_if (has_ended p items laid k) end k
    one k e = by (has_end k.end) refl
      where
        by : (t : Bool) → has_end k.end ≡ t → k ≡ closed_if (has_ended p items laid k) end k
        by true h = sym (ap (λ t. closed_if (t || ends_at p items laid k) end k) h ∙ closed_ended end k h)
        by false h = sym (ap₂ (λ t e. closed_if (t || e) end k) h e)

    later : (held : List Kept) → All (λ k. ends_at p items laid k ≡ false) held → held ≡ map (λ k. closed_if (has_ended p items laid k) end k) held
    later [] all = refl
    later (k ∷ held) all = ap₂ (λ (x : Kept) (xs : List Kept). x ∷ xs) (one k (All-head (λ k. ends_at p items laid k ≡ false) k held all)) (later held (All-tail (λ k. ends_at p items laid k ≡ false) k held all))
ending_parted p items laid end (suc n) [] h = refl
ending_parted p items laid end (suc n) (k ∷ held) h = ap₂ (λ (x : Kept) (xs : List Kept). x ∷ xs) (sym (ap (λ t. closed_if t end k) h.0)) (ending_parted p items laid end n held h.1)

-- ---- the first one whose path goes on

-- those behind it are not at their ends either
behind_goes : (p : Passing) (items laid : ℕ) (k j : Kept) → k.items ≤ j.items → k.laid ≤ j.laid → ends_at p items laid k ≡ false → ends_at p items laid j ≡ false
behind_goes p items laid k j a b e =
    let s = or_false (stops_at p) (nat_le (k.items + 1023) items || (lays_at p && nat_le (k.laid + 256) laid)) e in
    let t = or_false (nat_le (k.items + 1023) items) (lays_at p && nat_le (k.laid + 256) laid) s.1 in
    let x : nat_le (j.items + 1023) items ≡ false = lt-leb (j.items + 1023) items (let h = leb-false (k.items + 1023) items t.0 in omega arith) in
    let y : (lays_at p && nat_le (j.laid + 256) laid) ≡ false = by (lays_at p) t.1 in
    ap₂ (λ (u v : Bool). u || v) s.0 (ap₂ (λ (u v : Bool). u || v) x y)
  where
    by : (t : Bool) → (t && nat_le (k.laid + 256) laid) ≡ false → (t && nat_le (j.laid + 256) laid) ≡ false
    by true e = lt-leb (j.laid + 256) laid (let h = leb-false (k.laid + 256) laid e in omega arith)
    by false e = refl

all_behind : (p : Passing) (items laid : ℕ) (k : Kept) (held : List Kept) → AreBehind k held → ends_at p items laid k ≡ false → All (λ k. ends_at p items laid k ≡ false) held
all_behind p items laid k [] b e = All-nil (λ k. ends_at p items laid k ≡ false)
all_behind p items laid k (j ∷ held) b e = All-cons (λ k. ends_at p items laid k ≡ false) j held (behind_goes p items laid k j b.0.0 b.0.1 e) (all_behind p items laid k held b.1 e)

-- the first n have ended or end at the state
abbrev pub AreGone : Passing → (items laid : ℕ) → ℕ → List Kept → Type 0
AreGone p items laid zero held = Unit {0}
AreGone p items laid (suc n) [] = ⊥
AreGone p items laid (suc n) (k ∷ held) = (has_ended p items laid k ≡ true) × AreGone p items laid n held

pub gone_first : (p : Passing) (items laid n : ℕ) (held : List Kept) → AreEnded n held → AreGone p items laid n held
gone_first p items laid zero held e = tt
gone_first p items laid (suc n) [] e = e
gone_first p items laid (suc n) (k ∷ held) e = (ap (λ t. t || ends_at p items laid k) e.0, gone_first p items laid n held e.1)

pub gone_more : (p : Passing) (items laid n : ℕ) (held : List Kept) (k : Kept) → slice_get held n ≡ Some k → has_ended p items laid k ≡ true → AreGone p items laid n held → AreGone p items laid (suc n) held
gone_more p items laid zero [] k at e g = absurd (let h : None ≡ Some k = at in cc)
gone_more p items laid zero (j ∷ held) k at e g = (ap (has_ended p items laid) (same_Some j k at) ∙ e, tt)
gone_more p items laid (suc n) [] k at e g = g
gone_more p items laid (suc n) (j ∷ held) k at e g = (g.0, gone_more p items laid n held k at e g.1)

pub gone_all : (p : Passing) (items laid n : ℕ) (held : List Kept) → AreGone p items laid n held → length held ≤ n → AreParted p items laid n held
gone_all p items laid zero [] g h = tt
gone_all p items laid zero (k ∷ held) g h = absurd (omega arith)
gone_all p items laid (suc n) [] g h = g
gone_all p items laid (suc n) (k ∷ held) g h = (g.0, gone_all p items laid n held g.1 (omega arith))

pub gone_parted : (p : Passing) (items laid n : ℕ) (held : List Kept) (k : Kept) → AreGone p items laid n held → AreInOrder held → slice_get held n ≡ Some k → has_ended p items laid k ≡ false → AreParted p items laid n held
gone_parted p items laid zero [] k g o at e = tt
gone_parted p items laid zero (j ∷ held) k g o at e =
    let here : has_ended p items laid j ≡ false = ap (has_ended p items laid) (same_Some j k at) ∙ e in
    (here, all_behind p items laid j held o.0 (or_false (has_end j.end) (ends_at p items laid j) here).1)
gone_parted p items laid (suc n) [] k g o at e = g
gone_parted p items laid (suc n) (j ∷ held) k g o at e = (g.0, gone_parted p items laid n held k g.1 o.1 at e)

-- one of them is there, if the first n aren't all
pub parted_one : (p : Passing) (items laid n most : ℕ) (held : List Kept) → AreParted p items laid n held → n < length held → All (λ k. k.items + 1023 ≤ most) held → items < most
parted_one p items laid zero most [] h less all = absurd (omega arith)
parted_one p items laid zero most (k ∷ held) h less all =
    let e = (or_false (has_end k.end) (ends_at p items laid k) h.0).1 in
    let s = or_false (stops_at p) (nat_le (k.items + 1023) items || (lays_at p && nat_le (k.laid + 256) laid)) e in
    let a = leb-false (k.items + 1023) items (or_false (nat_le (k.items + 1023) items) (lays_at p && nat_le (k.laid + 256) laid) s.1).0 in
    let b = All-head (λ k. k.items + 1023 ≤ most) k held all in
    omega arith
parted_one p items laid (suc n) most [] h less all = absurd (omega arith)
parted_one p items laid (suc n) most (k ∷ held) h less all = parted_one p items laid n most held h.1 (omega arith) (All-tail (λ k. k.items + 1023 ≤ most) k held all)

-- ---- what is kept

behind_ending : (end n : ℕ) (k : Kept) (held : List Kept) → AreBehind k held → AreBehind k (ending end n held)
behind_ending end zero k held b = b
behind_ending end (suc n) k [] b = b
behind_ending end (suc n) k (j ∷ held) b = (b.0, behind_ending end n k held b.1)

behind_closed : (end : ℕ) (k : Kept) (held : List Kept) → AreBehind k held → AreBehind (closed end k) held
behind_closed end k [] b = tt
behind_closed end k (j ∷ held) b = (b.0, behind_closed end k held b.1)

order_ending : (end n : ℕ) (held : List Kept) → AreInOrder held → AreInOrder (ending end n held)
order_ending end zero held o = o
order_ending end (suc n) [] o = o
order_ending end (suc n) (k ∷ held) o = (behind_closed end k (ending end n held) (behind_ending end n k held o.0), order_ending end n held o.1)

ended_ending : (end n : ℕ) (held : List Kept) → n ≤ length held → AreEnded n (ending end n held)
ended_ending end zero held h = tt
ended_ending end (suc n) [] h = absurd (omega arith)
ended_ending end (suc n) (k ∷ held) h = (refl, ended_ending end n held (omega arith))

begun_ending : (most end n : ℕ) (held : List Kept) → All (λ k. k.items + 1023 ≤ most) held → All (λ k. k.items + 1023 ≤ most) (ending end n held)
begun_ending most end zero held all = all
begun_ending most end (suc n) [] all = all
begun_ending most end (suc n) (k ∷ held) all = All-cons (λ k. k.items + 1023 ≤ most) (closed end k) (ending end n held) (All-head (λ k. k.items + 1023 ≤ most) k held all) (begun_ending most end n held (All-tail (λ k. k.items + 1023 ≤ most) k held all))

kept_ending : (long items laid n : ℕ) (held : List Kept) → All (IsKept long items laid) held → All (IsKept long items laid) (ending long n held)
kept_ending long items laid zero held all = all
kept_ending long items laid (suc n) [] all = all
kept_ending long items laid (suc n) (k ∷ held) all =
    All-cons (IsKept long items laid) (closed long k) (ending long n held) (kept_closed long items laid k (All-head (IsKept long items laid) k held all)) (kept_ending long items laid n held (All-tail (IsKept long items laid) k held all))

pub parted_long : (p : Passing) (items laid n : ℕ) (held : List Kept) → AreParted p items laid n held → n ≤ length held
parted_long p items laid zero held h = omega arith
parted_long p items laid (suc n) [] h = absurd h
parted_long p items laid (suc n) (k ∷ held) h = let r = parted_long p items laid n held h.1 in omega arith

pub ends_kept : (p : Passing) (long items laid front n : ℕ) (held : List Kept) → AreKept long items laid front held → AreParted p items laid n held → AreKept long items laid n (ending long n held)
ends_kept p long items laid front n held h parted =
    let l = length-ending long n held in
    record {
      few = subst (λ m. m < 2 ^ 32) (sym l) h.few;
      kept = kept_ending long items laid n held h.kept;
      order = order_ending long n held h.order;
      ended = ended_ending long n held (parted_long p items laid n held parted);
      items_fit = subst (λ m. items ≤ 1024 * m) (sym l) h.items_fit;
      begun = subst (λ m. All (λ k. k.items + 1023 ≤ 1024 * m) (ending long n held)) (sym l) (begun_ending (1024 * length held) long n held h.begun);
      laid_fit = h.laid_fit;
    }

-- those that go on pass the state
goes_kept : (p : Passing) (long items laid n : ℕ) (held : List Kept) → All (IsKept long items laid) held → AreParted p items laid n held → All (IsKept (long + length (chosen_at p)) (suc items) (laid + laid_at p)) (ending long n held)
goes_kept p long items laid zero [] all h = All-nil (IsKept (long + length (chosen_at p)) (suc items) (laid + laid_at p))
goes_kept p long items laid zero (k ∷ held) all h =
    All-cons (IsKept (long + length (chosen_at p)) (suc items) (laid + laid_at p)) k held
    (kept_more p long items laid k (All-head (IsKept long items laid) k held all) (λ e. (or_false (has_end k.end) (ends_at p items laid k) h.0).1))
    (later held (All-tail (IsKept long items laid) k held all) h.1)
  where
    later : (held : List Kept) → All (IsKept long items laid) held → All (λ k. ends_at p items laid k ≡ false) held → All (IsKept (long + length (chosen_at p)) (suc items) (laid + laid_at p)) held
    later [] all on = All-nil (IsKept (long + length (chosen_at p)) (suc items) (laid + laid_at p))
    later (k ∷ held) all on =
        All-cons (IsKept (long + length (chosen_at p)) (suc items) (laid + laid_at p)) k held
        (kept_more p long items laid k (All-head (IsKept long items laid) k held all) (λ e. All-head (λ k. ends_at p items laid k ≡ false) k held on))
        (later held (All-tail (IsKept long items laid) k held all) (All-tail (λ k. ends_at p items laid k ≡ false) k held on))
goes_kept p long items laid (suc n) [] all h = absurd h
goes_kept p long items laid (suc n) (k ∷ held) all h =
    All-cons (IsKept (long + length (chosen_at p)) (suc items) (laid + laid_at p)) (closed long k) (ending long n held)
    (kept_more p long items laid (closed long k) (kept_closed long items laid k (All-head (IsKept long items laid) k held all)) (λ e. absurd (true≢false e)))
    (goes_kept p long items laid n held (All-tail (IsKept long items laid) k held all) h.1)

pub passes_kept : (p : Passing) (long items laid front n : ℕ) (held : List Kept) → AreKept long items laid front held → AreParted p items laid n held → n < length held
    → AreKept (long + length (chosen_at p)) (suc items) (laid + laid_at p) n (ending long n held)
passes_kept p long items laid front n held h parted less =
    let ends = ends_kept p long items laid front n held h parted in
    let l = length-ending long n held in
    record {
      few = ends.few;
      kept = goes_kept p long items laid n held h.kept parted;
      order = ends.order;
      ended = ends.ended;
      items_fit = (let one = parted_one p items laid n (1024 * length held) held parted less h.begun in subst (λ m. suc items ≤ 1024 * m) (sym l) (omega arith));
      begun = ends.begun;
      laid_fit = (let a = h.laid_fit in let b = laid_few p in omega arith);
    }

-- ---- some of the paths end here

pub closes_same : (end : ℕ) (held : List Kept) → ClosesSome end held held
closes_same end [] = tt
closes_same end (k ∷ held) = (inl refl, closes_same end held)

pub closes_one : (end i : ℕ) (held : List Kept) (k : Kept) (t : Bool) → slice_get held i ≡ Some k → ClosesSome end held (slice_set held i (closed_if t end k))
closes_one end i [] k t at = tt
closes_one end zero (j ∷ held) k t at = (by t, closes_same end held)
  where
    same : j ≡ k
    same = same_Some j k at

    by : (t : Bool) → (closed_if t end k ≡ j) ⊎ (closed_if t end k ≡ closed end j)
    by true = inr (ap (closed end) (sym same))
    by false = inl (sym same)
closes_one end (suc i) (j ∷ held) k t at = (inl refl, closes_one end i held k t at)

-- what closing keeps
closes_each : (end : ℕ) (k j : Kept) (Is : Kept → Type 0) → (j ≡ k) ⊎ (j ≡ closed end k) → Is k → Is (closed end k) → Is j
closes_each end k j Is (inl e) same closed' = subst Is (sym e) same
closes_each end k j Is (inr e) same closed' = subst Is (sym e) closed'

pub closes_places : (end : ℕ) (old new : List Kept) → ClosesSome end old new → map (λ k. k.named.place) new ≡ map (λ k. k.named.place) old
closes_places end [] [] h = refl
closes_places end [] (j ∷ new) h = absurd h
closes_places end (k ∷ old) [] h = absurd h
closes_places end (k ∷ old) (j ∷ new) h =
    ap₂ (λ (x : Arrival) (xs : List Arrival). x ∷ xs) (closes_each end k j (λ z. z.named.place ≡ k.named.place) h.0 refl refl) (closes_places end old new h.1)

closes_long : (end : ℕ) (old new : List Kept) → ClosesSome end old new → length new ≡ length old
closes_long end [] [] h = refl
closes_long end [] (j ∷ new) h = absurd h
closes_long end (k ∷ old) [] h = absurd h
closes_long end (k ∷ old) (j ∷ new) h = ap suc (closes_long end old new h.1)

closes_kept_all : (end items laid : ℕ) (old new : List Kept) → ClosesSome end old new → All (IsKept end items laid) old → All (IsKept end items laid) new
closes_kept_all end items laid [] [] h all = All-nil (IsKept end items laid)
closes_kept_all end items laid [] (j ∷ new) h all = absurd h
closes_kept_all end items laid (k ∷ old) [] h all = absurd h
closes_kept_all end items laid (k ∷ old) (j ∷ new) h all =
    let one = All-head (IsKept end items laid) k old all in
    All-cons (IsKept end items laid) j new (closes_each end k j (IsKept end items laid) h.0 one (kept_closed end items laid k one)) (closes_kept_all end items laid old new h.1 (All-tail (IsKept end items laid) k old all))

closes_behind : (end items laid : ℕ) (k : Kept) (old new : List Kept) → ClosesSome end old new → items ≡ k.items → laid ≡ k.laid → (j : Kept) → j.items ≡ items → j.laid ≡ laid → AreBehind k old → AreBehind j new
closes_behind end items laid k [] [] h a b j c d behind = tt
closes_behind end items laid k [] (n ∷ new) h a b j c d behind = absurd h
closes_behind end items laid k (o ∷ old) [] h a b j c d behind = absurd h
closes_behind end items laid k (o ∷ old) (n ∷ new) h a b j c d behind =
    let x = closes_each end o n (λ z. (z.items ≡ o.items) × (z.laid ≡ o.laid)) h.0 (refl, refl) (refl, refl) in
    let y = x.0 in
    let z = x.1 in
    let p = behind.0.0 in
    let q = behind.0.1 in
    ((omega arith, omega arith), closes_behind end items laid k old new h.1 a b j c d behind.1)

closes_order : (end : ℕ) (old new : List Kept) → ClosesSome end old new → AreInOrder old → AreInOrder new
closes_order end [] [] h o = tt
closes_order end [] (j ∷ new) h o = absurd h
closes_order end (k ∷ old) [] h o = absurd h
closes_order end (k ∷ old) (j ∷ new) h o =
    let x = closes_each end k j (λ z. (z.items ≡ k.items) × (z.laid ≡ k.laid)) h.0 (refl, refl) (refl, refl) in
    (closes_behind end k.items k.laid k old new h.1 refl refl j x.0 x.1 o.0, closes_order end old new h.1 o.1)

closes_ended : (end n : ℕ) (old new : List Kept) → ClosesSome end old new → AreEnded n old → AreEnded n new
closes_ended end zero old new h e = tt
closes_ended end (suc n) [] new h e = absurd e
closes_ended end (suc n) (k ∷ old) [] h e = absurd h
closes_ended end (suc n) (k ∷ old) (j ∷ new) h e = (closes_each end k j (λ z. has_end z.end ≡ true) h.0 e.0 refl, closes_ended end n old new h.1 e.1)

closes_begun : (end most : ℕ) (old new : List Kept) → ClosesSome end old new → All (λ k. k.items + 1023 ≤ most) old → All (λ k. k.items + 1023 ≤ most) new
closes_begun end most [] [] h all = All-nil (λ k. k.items + 1023 ≤ most)
closes_begun end most [] (j ∷ new) h all = absurd h
closes_begun end most (k ∷ old) [] h all = absurd h
closes_begun end most (k ∷ old) (j ∷ new) h all =
    let one = All-head (λ k. k.items + 1023 ≤ most) k old all in
    All-cons (λ k. k.items + 1023 ≤ most) j new (closes_each end k j (λ z. z.items + 1023 ≤ most) h.0 one one) (closes_begun end most old new h.1 (All-tail (λ k. k.items + 1023 ≤ most) k old all))

pub closes_kept : (end items laid front : ℕ) (old new : List Kept) → ClosesSome end old new → AreKept end items laid front old → AreKept end items laid front new
closes_kept end items laid front old new h k =
    let l = closes_long end old new h in
    record {
      few = subst (λ m. m < 2 ^ 32) (sym l) k.few;
      kept = closes_kept_all end items laid old new h k.kept;
      order = closes_order end old new h k.order;
      ended = closes_ended end front old new h k.ended;
      items_fit = subst (λ m. items ≤ 1024 * m) (sym l) k.items_fit;
      begun = subst (λ m. All (λ k. k.items + 1023 ≤ 1024 * m) new) (sym l) (closes_begun end (1024 * length old) old new h k.begun);
      laid_fit = k.laid_fit;
    }

-- ---- the entry whose label is here

no_number : (a : Arrival) (number n end : ℕ) (held : List Kept) → IsNumbered a number n held → (number < n) ⊎ (n + length held ≤ number) → held ≡ map (λ k. closed_if (is_at a k.named.place) end k) held
no_number a number n end [] h out = refl
no_number a number n end (k ∷ held) h out =
    ap₂ (λ (x : Kept) (xs : List Kept). x ∷ xs) (by (is_at a k.named.place) refl)
    (no_number a number (suc n) end held h.1 (⊎_elim (λ less. inl (omega arith)) (λ more. inr (let m : n + suc (length held) ≤ number = more in omega arith)) out))
  where
    by : (t : Bool) → is_at a k.named.place ≡ t → k ≡ closed_if t end k
    by true e = absurd (let same = h.0 e in ⊎_elim (λ less. omega arith) (λ more. let m : n + suc (length held) ≤ number = more in omega arith) out)
    by false e = refl

one_number : (a : Arrival) (number n end i : ℕ) (held : List Kept) (k : Kept) → IsNumbered a number n held → number ≡ n + i → slice_get held i ≡ Some k
    → slice_set held i (closed_if (is_at a k.named.place) end k) ≡ map (λ k. closed_if (is_at a k.named.place) end k) held
one_number a number n end i [] k h is at = refl
one_number a number n end zero (j ∷ held) k h is at =
    ap₂ (λ (x : Kept) (xs : List Kept). x ∷ xs) (ap (λ z. closed_if (is_at a z.named.place) end z) (sym (same_Some j k at))) (no_number a number (suc n) end held h.1 (inl (omega arith)))
one_number a number n end (suc i) (j ∷ held) k h is at =
    ap₂ (λ (x : Kept) (xs : List Kept). x ∷ xs) (by (is_at a j.named.place) refl) (one_number a number (suc n) end i held k h.1 (omega arith) at)
  where
    by : (t : Bool) → is_at a j.named.place ≡ t → j ≡ closed_if t end j
    by true e = absurd (let same = h.0 e in omega arith)
    by false e = refl

pub none_here : (a : Arrival) (number end : ℕ) (held : List Kept) → (number < 1) ⊎ (length held < number) → IsNumbered a number 1 held → held ≡ map (λ k. closed_if (is_at a k.named.place) end k) held
none_here a number end held out h = no_number a number 1 end held h (⊎_elim (λ less. inl less) (λ more. inr (omega arith)) out)

pub one_here : (a : Arrival) (number end : ℕ) (held : List Kept) (k new : Kept) → 0 < number → number ≤ length held → k ≡ get_or held (number - 1) k → new ≡ closed_if (is_at a k.named.place) end k → IsNumbered a number 1 held
    → slice_set held (number - 1) new ≡ map (λ k. closed_if (is_at a k.named.place) end k) held
one_here a number end held k new some within at made h =
    ap (slice_set held (number - 1)) made
    ∙ one_number a number 1 end (number - 1) held k h (omega arith) (slice_get-get_or held (number - 1) k (omega arith) ∙ ap Some (sym at))

pub one_closes : (a : Arrival) (number end : ℕ) (held : List Kept) (k new : Kept) → 0 < number → number ≤ length held → k ≡ get_or held (number - 1) k → new ≡ closed_if (is_at a k.named.place) end k
    → ClosesSome end held (slice_set held (number - 1) new)
one_closes a number end held k new some within at made =
    subst (λ z. ClosesSome end held (slice_set held (number - 1) z)) (sym made)
    (closes_one end (number - 1) held k (is_at a k.named.place) (slice_get-get_or held (number - 1) k (omega arith) ∙ ap Some (sym at)))

-- ---- an entry more

behind_push : (k j : Kept) (held : List Kept) → AreBehind k held → k.items ≤ j.items → k.laid ≤ j.laid → AreBehind k (held ++ j ∷ [])
behind_push k j [] b x y = ((x, y), tt)
behind_push k j (i ∷ held) b x y = (b.0, behind_push k j held b.1 x y)

order_push : (j : Kept) (held : List Kept) → AreInOrder held → All (λ k. (k.items ≤ j.items) × (k.laid ≤ j.laid)) held → AreInOrder (held ++ j ∷ [])
order_push j [] o all = (tt, tt)
order_push j (k ∷ held) o all =
    let h = All-head (λ k. (k.items ≤ j.items) × (k.laid ≤ j.laid)) k held all in
    (behind_push k j held o.0 h.0 h.1, order_push j held o.1 (All-tail (λ k. (k.items ≤ j.items) × (k.laid ≤ j.laid)) k held all))

ended_push : (n : ℕ) (held : List Kept) (j : Kept) → AreEnded n held → AreEnded n (held ++ j ∷ [])
ended_push zero held j e = tt
ended_push (suc n) [] j e = absurd e
ended_push (suc n) (k ∷ held) j e = (e.0, ended_push n held j e.1)

all_below : (long items laid : ℕ) (held : List Kept) → All (IsKept long items laid) held → All (λ k. (k.items ≤ items) × (k.laid ≤ laid)) held
all_below long items laid [] all = All-nil (λ k. (k.items ≤ items) × (k.laid ≤ laid))
all_below long items laid (k ∷ held) all =
    let h = All-head (IsKept long items laid) k held all in
    All-cons (λ k. (k.items ≤ items) × (k.laid ≤ laid)) k held (h.items_before, h.laid_before) (all_below long items laid held (All-tail (IsKept long items laid) k held all))

begun_push : (most more : ℕ) (held : List Kept) → most ≤ more → All (λ k. k.items + 1023 ≤ most) held → All (λ k. k.items + 1023 ≤ more) held
begun_push most more [] h all = All-nil (λ k. k.items + 1023 ≤ more)
begun_push most more (k ∷ held) h all =
    All-cons (λ k. k.items + 1023 ≤ more) k held (let x = All-head (λ k. k.items + 1023 ≤ most) k held all in omega arith) (begun_push most more held h (All-tail (λ k. k.items + 1023 ≤ most) k held all))

pub begins_kept : (long items laid front : ℕ) (held : List Kept) (k : Kept) → AreKept long items laid front held → suc (length held) < 2 ^ 32 → k.items ≡ items → k.laid ≡ laid → k.start ≡ long → k.end ≡ None
    → AreKept long items laid front (held ++ k ∷ [])
begins_kept long items laid front held k h few a b c d =
    let l : length (held ++ k ∷ []) ≡ length held + 1 = length_push held k in
    let all = h.items_fit in
    let one : IsKept long items laid k = record {
      within = record { start = subst (λ o. k.start ≤ end_or o long) (sym d) (omega arith); end = subst (λ o. end_or o long ≤ long) (sym d) (omega arith) };
      items_before = omega arith;
      laid_before = omega arith;
      goes = subst (IsOpen long items laid k) (sym d) ((omega arith), (omega arith), (omega arith));
    } in
    record {
      few = omega arith;
      kept = All-append (IsKept long items laid) held (k ∷ []) h.kept (All-cons (IsKept long items laid) k [] one (All-nil (IsKept long items laid)));
      order = order_push k held h.order (subst (λ n. All (λ j. (j.items ≤ n) × (j.laid ≤ k.laid)) held) (sym a) (subst (λ n. All (λ j. (j.items ≤ items) × (j.laid ≤ n)) held) (sym b) (all_below long items laid held h.kept)));
      ended = ended_push front held k h.ended;
      items_fit = omega arith;
      begun = All-append (λ j. j.items + 1023 ≤ 1024 * length (held ++ k ∷ [])) held (k ∷ []) (begun_push (1024 * length held) (1024 * length (held ++ k ∷ [])) held (omega arith) h.begun)
          (All-cons (λ j. j.items + 1023 ≤ 1024 * length (held ++ k ∷ [])) k [] (omega arith) (All-nil (λ j. j.items + 1023 ≤ 1024 * length (held ++ k ∷ []))));
      laid_fit = h.laid_fit;
    }

-- ---- none

pub none_kept : AreKept 0 0 0 0 []
none_kept = record {
  few = omega arith;
  kept = All-nil (IsKept 0 0 0);
  order = tt;
  ended = tt;
  items_fit = omega arith;
  begun = All-nil (λ k. k.items + 1023 ≤ 1024 * 0);
  laid_fit = omega arith;
}

-- what holds of the element at a place within
pub at_some : {X Y : Type 0} (xs : List X) (n : ℕ) → n < length xs → ((x : X) → slice_get xs n ≡ Some x → Y) → Y
at_some [] n h f = absurd (omega arith)
at_some (x ∷ xs) zero h f = f x refl
at_some (x ∷ xs) (suc n) h f = at_some xs n (omega arith) f
