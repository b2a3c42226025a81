-- What the entries are after a state.
use Rattle.std.proofs.Common.{◌≡◌, ℕ, zero, suc, ◌+◌, ◌-◌, ◌<◌, ◌≤◌, ◌&&◌, ◌||◌, Bool, true, false, true≢false, cond, List, [], ◌∷◌, ◌++◌, length, map, Option, Some, None, refl, sym, ap, ap₂, subst, ◌∙◌, arith}
use Rattle.std.specs.Prelude.{◌==◌, nat_lt, OnErr, Result, Ok, Err}
use Rattle.std.specs.List.{All, list_any}
use Rattle.std.proofs.lemmas.Bool.{eqb-true, lt-ltb}
use Rattle.std.proofs.lemmas.List.Elements.{All-nil, All-cons, All-head, All-tail, All-append}
use Rattle.std.proofs.lemmas.Option.{same_Some}
use Rattle.bril_tree.specs.declared.numbered.Instr.{Instr}
use Rattle.bril_tree.specs.declared.numbered.Instr.TheVariants.{Label, Const, Act}
use Rattle.bril_tree.specs.declared.program.Prog.{Prog}
use Rattle.bril_tree.specs.State.{Frame, State}
use Rattle.bril_tree.specs.Step.{item_at}
use Rattle.bril_interpreter.specs.Interpreter.{newest_frame}
use Rattle.trace_paths.specs.Path.{item_met}
use Rattle.trace_recorder.specs.declared.arrival.Arrival.{Arrival}
use Rattle.trace_recorder.specs.declared.kept.Kept.{Kept}
use Rattle.trace_recorder.specs.declared.passing.Passing.{Passing}
use Rattle.trace_recorder.specs.declared.passing.Passing.TheVariants.{Stops, Over, Lays, Turns}
use Rattle.trace_recorder.specs.Sight.{Sight, sight, sight_in, sight_at, arrival, label_at}
use Rattle.trace_recorder.specs.Recorded.{counted, is_hot, own_of}
use Rattle.trace_recorder.specs.Standing.{Held, held_at, held_on, may_lay, seeing}
use Rattle.trace_recorder.specs.Passings.{passing_at, passing_of, laid_at, chosen_at, takes_choice, is_own}
use Rattle.trace_recorder.specs.Kept.{left_of, held_of, closed_if, has_end, ends_at, has_ended, ending, is_at, IsOpen, IsWithin, IsKept, AreEnded, AreParted, AreKept, OwnEnded}
use Rattle.trace_recorder.proofs.OneEntry.{and_true, or_false, survives, one_seen, own_first, ended_held, ended_seen}
use Rattle.trace_recorder.proofs.AllEntries.{ending_parted, ends_kept, length-ending}

all_ended : (n : ℕ) (held : List Kept) → AreEnded n held → length held ≤ n → All (λ k. has_end k.end ≡ true) held
all_ended zero [] e h = All-nil (λ k. has_end k.end ≡ true)
all_ended zero (k ∷ held) e h = absurd (omega arith)
all_ended (suc n) [] e h = absurd e
all_ended (suc n) (k ∷ held) e h = All-cons (λ k. has_end k.end ≡ true) k held e.0 (all_ended n held e.1 (omega arith))

all_within : (long items laid : ℕ) (held : List Kept) → All (IsKept long items laid) held → All (IsWithin long) held
all_within long items laid [] all = All-nil (IsWithin long)
all_within long items laid (k ∷ held) all = All-cons (IsWithin long) k held (All-head (IsKept long items laid) k held all).within (all_within long items laid held (All-tail (IsKept long items laid) k held all))

-- where no path goes on nothing changes
pub none_seen : (s : Option Sight) (log : List Bool) (items laid front : ℕ) (held : List Kept) → AreEnded front held → length held ≤ front
    → map (seeing s) (map (held_of log items laid) held) ≡ map (held_of log items laid) held
none_seen s log items laid front held e h = each held (all_ended front held e h)
  where
    each : (held : List Kept) → All (λ k. has_end k.end ≡ true) held → map (seeing s) (map (held_of log items laid) held) ≡ map (held_of log items laid) held
    each [] all = refl
    each (k ∷ held) all = ap₂ (λ (x : Held) (xs : List Held). x ∷ xs) (ended_seen s k log items laid (All-head (λ k. has_end k.end ≡ true) k held all)) (each held (All-tail (λ k. has_end k.end ≡ true) k held all))

module _ (p : Passing) (log : List Bool) (items laid : ℕ) (s : Option Sight) (is : p ≡ passing_of s) where
  all_seen : (held : List Kept) → All (IsKept (length log) items laid) held → OwnEnded s held
      → map (held_of (log ++ chosen_at p) (suc items) (laid + laid_at p)) (map (λ k. closed_if (has_ended p items laid k) (length log) k) held) ≡ map (seeing s) (map (held_of log items laid) held)
  all_seen [] all own = refl
  all_seen (k ∷ held) all own =
      ap₂ (λ (x : Held) (xs : List Held). x ∷ xs)
      (one_seen p log items laid s is k (All-head (IsKept (length log) items laid) k held all) (All-head (λ k. is_own (own_of k.named.place) s ≡ true → has_end k.end ≡ true) k held own))
      (all_seen held (All-tail (IsKept (length log) items laid) k held all) (All-tail (λ k. is_own (own_of k.named.place) s ≡ true → has_end k.end ≡ true) k held own))

  -- those before a front end, and those that go on pass the state
  pub goes_seen : (front n : ℕ) (held : List Kept) → AreKept (length log) items laid front held → AreParted p items laid n held → OwnEnded s held
      → map (held_of (log ++ chosen_at p) (suc items) (laid + laid_at p)) (ending (length log) n held) ≡ map (seeing s) (map (held_of log items laid) held)
  goes_seen front n held kept parted own =
      ap (map (held_of (log ++ chosen_at p) (suc items) (laid + laid_at p))) (ending_parted p items laid (length log) n held parted) ∙ all_seen held kept.kept own

  -- all end
  pub ends_seen : (front n : ℕ) (held : List Kept) → AreKept (length log) items laid front held → AreParted p items laid n held → OwnEnded s held → length held ≤ n
      → map (held_of log items laid) (ending (length log) n held) ≡ map (seeing s) (map (held_of log items laid) held)
  ends_seen front n held kept parted own all =
      let after = ends_kept p (length log) items laid front n held kept parted in
      sym (ended_held (ending (length log) n held) log (chosen_at p) items laid (suc items) (laid + laid_at p) (all_within (length log) items laid (ending (length log) n held) after.kept)
      (all_ended n (ending (length log) n held) after.ended (let l = length-ending (length log) n held in omega arith)))
      ∙ goes_seen front n held kept parted own

-- ---- an arrival

-- the state of an arrival shows its label
pub record Shows (o : Option Sight) (a : Arrival) : Type 0 where
  pub at : Sight
  pub is : o ≡ Some at
  pub function : at.function ≡ a.func
  pub point : at.point ≡ a.point
  pub over : Over ≡ passing_of (Some at)

pub shown : (o : Option Sight) (a : Arrival) → arrival o ≡ Some a → Shows o a
shown None a e = absurd (let n : None ≡ Some a = e in cc)
shown (Some s) a e = by s.item refl e
  where
    by : (item : Instr) → s.item ≡ item → label_at s.function s.point item ≡ Some a → Shows (Some s) a
    by (Label l) is e =
        let same = same_Some _ a e in
        record { at = s; is = refl; function = ap (λ (b : Arrival). b.func) same; point = ap (λ (b : Arrival). b.point) same; over = ap (λ i. passing_at (item_met (Some i)) s.choice) (sym is) }
    by (Const d ty v) is e = absurd (let n : None ≡ Some a = e in cc)
    by (Act d ty o args fns ls) is e = absurd (let n : None ≡ Some a = e in cc)

own_at : (s : Sight) (a place : Arrival) → s.function ≡ a.func → s.point ≡ a.point → is_own (own_of place) (Some s) ≡ is_at a place
own_at s a place f p = ap₂ (λ m n. (m == place.func) && (n == place.point)) f p

module _ (s : Sight) (a : Arrival) (function : s.function ≡ a.func) (point : s.point ≡ a.point) where
  -- the entries whose label is here have ended first
  pub own_ended : (end : ℕ) (held : List Kept) → OwnEnded (Some s) (map (λ k. closed_if (is_at a k.named.place) end k) held)
  own_ended end [] = All-nil (λ k. is_own (own_of k.named.place) (Some s) ≡ true → has_end k.end ≡ true)
  own_ended end (k ∷ held) =
      All-cons (λ k. is_own (own_of k.named.place) (Some s) ≡ true → has_end k.end ≡ true) (closed_if (is_at a k.named.place) end k) (map (λ k. closed_if (is_at a k.named.place) end k) held)
      (by (is_at a k.named.place) refl) (own_ended end held)
    where
      by : (t : Bool) → is_at a k.named.place ≡ t → is_own (own_of (closed_if t end k).named.place) (Some s) ≡ true → has_end (closed_if t end k).end ≡ true
      by true e own = refl
      by false e own = absurd (true≢false (sym own ∙ own_at s a k.named.place function point ∙ e))

  pub own_first_seen : (p : Passing) (log : List Bool) (items laid : ℕ) (held : List Kept) → p ≡ passing_of (Some s) → All (IsKept (length log) items laid) held
      → map (seeing (Some s)) (map (held_of log items laid) (map (λ k. closed_if (is_at a k.named.place) (length log) k) held)) ≡ map (seeing (Some s)) (map (held_of log items laid) held)
  own_first_seen p log items laid [] is all = refl
  own_first_seen p log items laid (k ∷ held) is all =
      ap₂ (λ (x : Held) (xs : List Held). x ∷ xs) (by (is_at a k.named.place) refl) (own_first_seen p log items laid held is (All-tail (IsKept (length log) items laid) k held all))
    where
      by : (t : Bool) → is_at a k.named.place ≡ t → seeing (Some s) (held_of log items laid (closed_if t (length log) k)) ≡ seeing (Some s) (held_of log items laid k)
      by true e = own_first p log items laid (Some s) is k (All-head (IsKept (length log) items laid) k held all) (own_at s a k.named.place function point ∙ e)
      by false e = refl

-- ---- the labels of entries are those of the program

abbrev pub IsPlaced : Prog → Arrival → Type 0
IsPlaced P a = item_at P a.func a.point ≡ Some (Label a.label)

pub arrival_placed : (P : Prog) (st : State) (a : Arrival) → arrival (sight P st) ≡ Some a → IsPlaced P a
arrival_placed P st a e = by (newest_frame st) e
  where
    by_item : (frame : Frame) (o : Option Instr) → item_at P frame.function frame.point ≡ o → arrival (sight_at frame o) ≡ Some a → IsPlaced P a
    by_item frame None at e = absurd (let h : None ≡ Some a = e in cc)
    by_item frame (Some (Label l)) at e = subst (IsPlaced P) (same_Some _ a e) at
    by_item frame (Some (Const d ty v)) at e = absurd (let h : None ≡ Some a = e in cc)
    by_item frame (Some (Act d ty o args fns ls)) at e = absurd (let h : None ≡ Some a = e in cc)

    by : (f : Option Frame) → arrival (sight_in P f) ≡ Some a → IsPlaced P a
    by None e = absurd (let h : None ≡ Some a = e in cc)
    by (Some frame) e = by_item frame (item_at P frame.function frame.point) refl e

hot_is : (hot : ℕ) (counts : ℕ → ℕ → ℕ) (o : Option Arrival) (a : Arrival) → is_hot hot counts o ≡ Some a → o ≡ Some a
hot_is hot counts None a e = e
hot_is hot counts (Some b) a e = by (suc (counts b.func b.label) == hot) e
  where
    by : (t : Bool) → cond t (Some b) None ≡ Some a → Some b ≡ Some a
    by true e = e
    by false e = absurd (let n : None ≡ Some a = e in cc)

-- what holds of all arrivals holds of the labels of all entries
pub held_each : (P : Prog) (hot : ℕ) (Is : Arrival → Type 0) → ((st : State) (a : Arrival) → arrival (sight P st) ≡ Some a → Is a)
    → (run : List State) (counts : ℕ → ℕ → ℕ) → All (λ (h : Held). Is h.place) (held_on P hot counts (map (sight P) run))
held_each P hot Is of [] counts = All-nil (λ (h : Held). Is h.place)
held_each P hot Is of (st ∷ run) counts =
    All-append (λ (h : Held). Is h.place) (held_at P (is_hot hot counts (arrival (sight P st))) (map (sight P) run)) (held_on P hot (counted (arrival (sight P st)) counts) (map (sight P) run))
    (by (is_hot hot counts (arrival (sight P st))) refl) (held_each P hot Is of run (counted (arrival (sight P st)) counts))
  where
    by : (o : Option Arrival) → is_hot hot counts (arrival (sight P st)) ≡ o → All (λ (h : Held). Is h.place) (held_at P o (map (sight P) run))
    by None e = All-nil (λ (h : Held). Is h.place)
    by (Some a) e = All-cons (λ (h : Held). Is h.place) _ [] (of st a (hot_is hot counts (arrival (sight P st)) a e)) (All-nil (λ (h : Held). Is h.place))

-- so a state that is no arrival is at none of them
not_own : (P : Prog) (st : State) (a : Arrival) → IsPlaced P a → arrival (sight P st) ≡ None → is_own (own_of a) (sight P st) ≡ true → ⊥
not_own P st a placed none own = by (newest_frame st) none own
  where
    by_item : (frame : Frame) (o : Option Instr) → item_at P frame.function frame.point ≡ o → arrival (sight_at frame o) ≡ None → is_own (own_of a) (sight_at frame o) ≡ true → ⊥
    by_item frame None at none own = true≢false (sym own)
    by_item frame (Some item) at none own =
        let both = and_true (frame.function == a.func) (frame.point == a.point) own in
        let there : Some item ≡ Some (Label a.label) = sym at ∙ ap₂ (item_at P) (eqb-true frame.function a.func both.0) (eqb-true frame.point a.point both.1) ∙ placed in
        let is : item ≡ Label a.label = same_Some item (Label a.label) there in
        let n : label_at frame.function frame.point (Label a.label) ≡ None = ap (label_at frame.function frame.point) (sym is) ∙ none in
        absurd (let m : Some (let b : Arrival = record { func = frame.function; label = a.label; point = frame.point } in b) ≡ None = n in cc)

    by : (f : Option Frame) → arrival (sight_in P f) ≡ None → is_own (own_of a) (sight_in P f) ≡ true → ⊥
    by None none own = true≢false (sym own)
    by (Some frame) none own = by_item frame (item_at P frame.function frame.point) refl none own

pub none_own : (P : Prog) (st : State) (log : List Bool) (items laid : ℕ) (held : List Kept) → All (λ (h : Held). IsPlaced P h.place) (map (held_of log items laid) held) → arrival (sight P st) ≡ None → OwnEnded (sight P st) held
none_own P st log items laid [] all none = All-nil (λ k. is_own (own_of k.named.place) (sight P st) ≡ true → has_end k.end ≡ true)
none_own P st log items laid (k ∷ held) all none =
    All-cons (λ k. is_own (own_of k.named.place) (sight P st) ≡ true → has_end k.end ≡ true) k held
    (λ own. absurd (not_own P st k.named.place (All-head (λ (h : Held). IsPlaced P h.place) (held_of log items laid k) (map (held_of log items laid) held) all) none own))
    (none_own P st log items laid held (All-tail (λ (h : Held). IsPlaced P h.place) (held_of log items laid k) (map (held_of log items laid) held) all) none)

-- ---- the first path that goes on

lays_more : (p : Passing) → takes_choice p ≡ true → laid_at p ≡ 1
lays_more Stops e = absurd (true≢false (sym e))
lays_more Over e = absurd (true≢false (sym e))
lays_more Lays e = absurd (true≢false (sym e))
lays_more (Turns c) e = refl

or_true : (a b : Bool) → b ≡ true → (a || b) ≡ true
or_true true b e = refl
or_true false b e = e

pub parted_lays : (p : Passing) (log : List Bool) (items laid n : ℕ) (held : List Kept) → AreParted p items laid n held → n < length held → takes_choice p ≡ true → All (IsKept (length log) items laid) held
    → list_any may_lay (map (held_of log items laid) held) ≡ true
parted_lays p log items laid zero [] h less e all = absurd (omega arith)
parted_lays p log items laid zero (k ∷ held) h less e all =
    let both = or_false (has_end k.end) (ends_at p items laid k) h.0 in
    let kept = All-head (IsKept (length log) items laid) k held all in
    by k.end both.0 kept.goes both.1
  where
    by : (o : Option ℕ) → has_end o ≡ false → IsOpen (length log) items laid k o → ends_at p items laid k ≡ false
        → ((nat_lt 0 (left_of o 1023 (items - k.items)) && nat_lt 0 (left_of o 256 (laid - k.laid))) || list_any may_lay (map (held_of log items laid) held)) ≡ true
    by None none goes e' =
        let on = survives p items laid k goes.2 e' in
        let a = on.met in
        let b = on.lays in
        let c = lays_more p e in
        let x : nat_lt 0 (1023 - (items - k.items)) ≡ true = lt-ltb 0 (1023 - (items - k.items)) (omega arith) in
        let y : nat_lt 0 (256 - (laid - k.laid)) ≡ true = lt-ltb 0 (256 - (laid - k.laid)) (omega arith) in
        rw (x, y) refl
    by (Some end) none goes e' = absurd (true≢false none)
parted_lays p log items laid (suc n) [] h less e all = absurd h
parted_lays p log items laid (suc n) (k ∷ held) h less e all =
    or_true (may_lay (held_of log items laid k)) (list_any may_lay (map (held_of log items laid) held)) (parted_lays p log items laid n held h.1 (omega arith) e (All-tail (IsKept (length log) items laid) k held all))

pub always : {T E Q : Type 0} (r : Result T E) → Q → OnErr r Q
always (Ok x) q = tt
always (Err e) q = q
