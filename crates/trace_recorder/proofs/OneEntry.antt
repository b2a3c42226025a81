-- What one state does to an entry, by the log and the running numbers.
use Rattle.std.proofs.Common.{◌≡◌, ℕ, zero, suc, ◌+◌, ◌-◌, ◌<◌, ◌≤◌, ◌&&◌, ◌||◌, Bool, true, false, true≢false, cond, List, [], ◌∷◌, ◌++◌, length, map, take, drop, Option, Some, None, refl, sym, ap, ap₂, ◌∙◌, arith, append-nil}
use Rattle.std.specs.Prelude.{nat_le}
use Rattle.std.specs.List.{All}
use Rattle.std.proofs.lemmas.Bool.{leb-false, leb-true}
use Rattle.std.proofs.lemmas.List.{length-drop, take-append-le, drop-append-le, take_rest}
use Rattle.std.proofs.lemmas.List.Elements.{All-head, All-tail}
use Rattle.trace_paths.specs.Path.{Meeting, item_met}
use Rattle.trace_paths.specs.Path as path
use Rattle.trace_recorder.specs.declared.kept.Kept.{Kept}
use Rattle.trace_recorder.specs.declared.passing.Passing.{Passing}
use Rattle.trace_recorder.specs.declared.passing.Passing.TheVariants.{Stops, Over, Lays, Turns}
use Rattle.trace_recorder.specs.Sight.{Sight}
use Rattle.trace_recorder.specs.Recorded.{Own, Move, Ends, Goes, Chooses, met, move, own_of}
use Rattle.trace_recorder.specs.Standing.{Held, rest_of, added, moved_by, seeing}
use Rattle.trace_recorder.specs.Passings.{passing_at, passing_of, stops_at, lays_at, laid_at, chosen_at, is_own}
use Rattle.trace_recorder.specs.Kept.{choices_in, left_of, held_of, end_or, closed, closed_if, has_end, ends_at, has_ended, IsWithin, IsOpen, IsKept}

-- ---- a move, by the passing

abbrev passed : Passing → (fuel room : ℕ) → Move
passed Stops fuel room = Ends
passed Over fuel room = Goes fuel room
passed Lays fuel zero = Ends
passed Lays fuel (suc room) = Goes fuel room
passed (Turns c) fuel zero = Ends
passed (Turns c) fuel (suc room) = Chooses c fuel room

met_passed : (m : Meeting) (choice : Bool) (fuel room : ℕ) → met m choice fuel room ≡ passed (passing_at m choice) fuel room
met_passed path.Over choice fuel room = refl
met_passed (path.To l) choice fuel room = refl
met_passed path.Lays choice fuel zero = refl
met_passed path.Lays choice fuel (suc room) = refl
met_passed (path.Turns on off) choice fuel zero = refl
met_passed (path.Turns on off) choice fuel (suc room) = refl
met_passed path.Stops choice fuel room = refl

abbrev stepped : Bool → Passing → (fuel room : ℕ) → Move
stepped own p zero room = Ends
stepped own p (suc fuel) room = cond own Ends (passed p fuel room)

move_stepped : (own : Own) (fuel room : ℕ) (s : Option Sight) → move own fuel room s ≡ stepped (is_own own s) (passing_of s) fuel room
move_stepped own zero room s = refl
move_stepped own (suc fuel) room None = refl
move_stepped own (suc fuel) room (Some s) = ap (cond (is_own own (Some s)) Ends) (met_passed (item_met (Some s.item)) s.choice fuel room)

own_ends : (p : Passing) (fuel room : ℕ) → stepped true p fuel room ≡ Ends
own_ends p zero room = refl
own_ends p (suc fuel) room = refl

spent_ends : (own : Bool) (p : Passing) (room : ℕ) (fuel : ℕ) → fuel ≡ 0 → stepped own p fuel room ≡ Ends
spent_ends own p room zero e = refl
spent_ends own p room (suc fuel) e = absurd (omega arith)

passed_ends : (own : Bool) (p : Passing) (fuel room : ℕ) → ((fuel : ℕ) → passed p fuel room ≡ Ends) → stepped own p fuel room ≡ Ends
passed_ends own p zero room h = refl
passed_ends true p (suc fuel) room h = refl
passed_ends false p (suc fuel) room h = h fuel

full_ends : (p : Passing) (fuel room : ℕ) → lays_at p ≡ true → room ≡ 0 → passed p fuel room ≡ Ends
full_ends Stops fuel room l e = refl
full_ends Over fuel room l e = absurd (true≢false (sym l))
full_ends Lays fuel zero l e = refl
full_ends Lays fuel (suc room) l e = absurd (omega arith)
full_ends (Turns c) fuel zero l e = refl
full_ends (Turns c) fuel (suc room) l e = absurd (omega arith)

stop_ends : (p : Passing) (fuel room : ℕ) → stops_at p ≡ true → passed p fuel room ≡ Ends
stop_ends Stops fuel room e = refl
stop_ends Over fuel room e = absurd (true≢false (sym e))
stop_ends Lays fuel room e = absurd (true≢false (sym e))
stop_ends (Turns c) fuel room e = absurd (true≢false (sym e))

-- what a move that goes on adds and leaves
record Leaves (p : Passing) (fuel room : ℕ) (m : Move) : Type 0 where
  choice : added m ≡ chosen_at p
  fuel_is : suc (rest_of m).0 ≡ fuel
  room_is : (rest_of m).1 + laid_at p ≡ room

leaves : (p : Passing) (fuel room : ℕ) → 1 ≤ fuel → stops_at p ≡ false → laid_at p ≤ room → Leaves p fuel room (stepped false p fuel room)
leaves p zero room f s l = absurd (omega arith)
leaves Stops (suc fuel) room f s l = absurd (true≢false s)
leaves Over (suc fuel) room f s l = record { choice = refl; fuel_is = refl; room_is = omega arith }
leaves Lays (suc fuel) zero f s l = absurd (let h : 1 ≤ 0 = l in omega arith)
leaves Lays (suc fuel) (suc room) f s l = record { choice = refl; fuel_is = refl; room_is = omega arith }
leaves (Turns c) (suc fuel) zero f s l = absurd (let h : 1 ≤ 0 = l in omega arith)
leaves (Turns c) (suc fuel) (suc room) f s l = record { choice = refl; fuel_is = refl; room_is = omega arith }

-- ---- why a path ends at a state

pub or_false : (a b : Bool) → (a || b) ≡ false → (a ≡ false) × (b ≡ false)
or_false true b e = absurd (true≢false e)
or_false false b e = (refl, e)

or_cases : (a b : Bool) {X : Type 0} → (a || b) ≡ true → (a ≡ true → X) → (b ≡ true → X) → X
or_cases true b e f g = f refl
or_cases false b e f g = g e

pub and_true : (a b : Bool) → (a && b) ≡ true → (a ≡ true) × (b ≡ true)
and_true true b e = (refl, e)
and_true false b e = absurd (true≢false (sym e))

-- a path that goes on over the state
pub record Survives (p : Passing) (items laid : ℕ) (k : Kept) : Type 0 where
  pub stops : stops_at p ≡ false
  pub met : items < k.items + 1023
  pub lays : laid + laid_at p ≤ k.laid + 256

lays_by : (p : Passing) (items laid : ℕ) (k : Kept) → laid ≤ k.laid + 256 → (lays_at p && nat_le (k.laid + 256) laid) ≡ false → laid + laid_at p ≤ k.laid + 256
lays_by Stops items laid k h e = omega arith
lays_by Over items laid k h e = omega arith
lays_by Lays items laid k h e = let g = leb-false (k.laid + 256) laid e in omega arith
lays_by (Turns c) items laid k h e = let g = leb-false (k.laid + 256) laid e in omega arith

pub survives : (p : Passing) (items laid : ℕ) (k : Kept) → laid ≤ k.laid + 256 → ends_at p items laid k ≡ false → Survives p items laid k
survives p items laid k h e =
    let a = or_false (stops_at p) (nat_le (k.items + 1023) items || (lays_at p && nat_le (k.laid + 256) laid)) e in
    let b = or_false (nat_le (k.items + 1023) items) (lays_at p && nat_le (k.laid + 256) laid) a.1 in
    record { stops = a.0; met = leb-false (k.items + 1023) items b.0; lays = lays_by p items laid k h b.1 }

-- ---- the entry

-- what is held of it, where its path has ended so
abbrev held_as : Kept → List Bool → (items laid : ℕ) → Option ℕ → Held
held_as k log items laid o = record {
  func = k.named.func;
  label = k.named.label;
  place = k.named.place;
  choices = choices_in log k.start o;
  fuel = left_of o 1023 (items - k.items);
  room = left_of o 256 (laid - k.laid);
}

abbrev WithinAs : ℕ → ℕ → Option ℕ → Type 0
WithinAs long start o = (start ≤ end_or o long) × (end_or o long ≤ long)

within_as : (long : ℕ) (k : Kept) → IsWithin long k → WithinAs long k.start k.end
within_as long k h = (h.start, h.end)

part_same : (log more : List Bool) (start end : ℕ) → start ≤ end → end ≤ length log → take (end - start) (drop start (log ++ more)) ≡ take (end - start) (drop start log)
part_same log more start end a b =
    ap (take (end - start)) (drop-append-le start log more (omega arith))
    ∙ take-append-le (end - start) (drop start log) more (let l = length-drop start log in omega arith)

-- where its path has ended nothing changes any more
ended_same : (k : Kept) (log more : List Bool) (items laid i l : ℕ) (end : ℕ) → k.start ≤ end → end ≤ length log → held_as k (log ++ more) i l (Some end) ≡ held_as k log items laid (Some end)
ended_same k log more items laid i l end a b = λ j. record {
  func = k.named.func;
  label = k.named.label;
  place = k.named.place;
  choices = part_same log more k.start end a b j;
  fuel = 0;
  room = 0;
}

seen_ended : (s : Option Sight) (k : Kept) (log : List Bool) (items laid end : ℕ) → seeing s (held_as k log items laid (Some end)) ≡ held_as k log items laid (Some end)
seen_ended s k log items laid end = λ j. record {
  func = k.named.func;
  label = k.named.label;
  place = k.named.place;
  choices = append-nil (choices_in log k.start (Some end)) j;
  fuel = 0;
  room = 0;
}

-- it ends here
ends_here : (k : Kept) (log : List Bool) (items laid : ℕ) → k.start ≤ length log → moved_by Ends (held_as k log items laid None) ≡ held_as k log items laid (Some (length log))
ends_here k log items laid a = λ j. record {
  func = k.named.func;
  label = k.named.label;
  place = k.named.place;
  choices = (append-nil (drop k.start log) ∙ sym (take_rest log k.start)) j;
  fuel = 0;
  room = 0;
}

goes_here : (p : Passing) (k : Kept) (log : List Bool) (items laid : ℕ) (m : Move) → k.start ≤ length log → k.items ≤ items → k.laid ≤ laid → Leaves p (1023 - (items - k.items)) (256 - (laid - k.laid)) m
    → moved_by m (held_as k log items laid None) ≡ held_as k (log ++ chosen_at p) (suc items) (laid + laid_at p) None
goes_here p k log items laid m a b c h =
    let choice = h.choice in
    let fuel : (rest_of m).0 ≡ 1023 - (suc items - k.items) = (let f = h.fuel_is in omega arith) in
    let room : (rest_of m).1 ≡ 256 - ((laid + laid_at p) - k.laid) = (let r = h.room_is in omega arith) in
    let grown : drop k.start log ++ added m ≡ drop k.start (log ++ chosen_at p) = ap (λ c. drop k.start log ++ c) choice ∙ sym (drop-append-le k.start log (chosen_at p) a) in
    λ j. record { func = k.named.func; label = k.named.label; place = k.named.place; choices = grown j; fuel = fuel j; room = room j }

-- ---- what a state does

abbrev end_if : Bool → ℕ → Option ℕ → Option ℕ
end_if true n o = Some (end_or o n)
end_if false n o = o

held_if : (t : Bool) (n : ℕ) (k : Kept) (log : List Bool) (i l : ℕ) → held_of log i l (closed_if t n k) ≡ held_as k log i l (end_if t n k.end)
held_if true n k log i l = refl
held_if false n k log i l = refl

module _ (p : Passing) (log : List Bool) (items laid : ℕ) (s : Option Sight) (is : p ≡ passing_of s) where
  moves : (k : Kept) → move (own_of k.named.place) (1023 - (items - k.items)) (256 - (laid - k.laid)) s ≡ stepped (is_own (own_of k.named.place) s) p (1023 - (items - k.items)) (256 - (laid - k.laid))
  moves k = move_stepped (own_of k.named.place) (1023 - (items - k.items)) (256 - (laid - k.laid)) s ∙ ap (λ p. stepped (is_own (own_of k.named.place) s) p (1023 - (items - k.items)) (256 - (laid - k.laid))) (sym is)

  module _ (k : Kept) (below : k.items ≤ items) (under : k.laid ≤ laid) (start : k.start ≤ length log) where
    all_end : (own : Bool) → ends_at p items laid k ≡ true → stepped own p (1023 - (items - k.items)) (256 - (laid - k.laid)) ≡ Ends
    all_end own e =
        or_cases (stops_at p) (nat_le (k.items + 1023) items || (lays_at p && nat_le (k.laid + 256) laid)) e
        (λ stops. passed_ends own p (1023 - (items - k.items)) (256 - (laid - k.laid)) (λ fuel. stop_ends p fuel (256 - (laid - k.laid)) stops))
        (λ spent. or_cases (nat_le (k.items + 1023) items) (lays_at p && nat_le (k.laid + 256) laid) spent
        (λ t. spent_ends own p (256 - (laid - k.laid)) (1023 - (items - k.items)) (let h = leb-true (k.items + 1023) items t in omega arith))
        (λ t. let both = and_true (lays_at p) (nat_le (k.laid + 256) laid) t in
        passed_ends own p (1023 - (items - k.items)) (256 - (laid - k.laid)) (λ fuel. full_ends p fuel (256 - (laid - k.laid)) both.0 (let h = leb-true (k.laid + 256) laid both.1 in omega arith))))

    -- an entry whose path goes on so far, and whose label isn't here
    open_seen : laid ≤ k.laid + 256 → is_own (own_of k.named.place) s ≡ false → (t : Bool) → ends_at p items laid k ≡ t
        → held_as k (log ++ chosen_at p) (suc items) (laid + laid_at p) (end_if t (length log) None) ≡ seeing s (held_as k log items laid None)
    open_seen room other true e =
        ended_same k log (chosen_at p) items laid (suc items) (laid + laid_at p) (length log) start (omega arith)
        ∙ sym (ends_here k log items laid start)
        ∙ ap (λ m. moved_by m (held_as k log items laid None)) (sym (moves k ∙ all_end (is_own (own_of k.named.place) s) e))
    open_seen room other false e =
        let goes = survives p items laid k room e in
        let f = goes.met in
        let l = goes.lays in
        sym (goes_here p k log items laid (stepped false p (1023 - (items - k.items)) (256 - (laid - k.laid))) start below under
        (leaves p (1023 - (items - k.items)) (256 - (laid - k.laid)) (omega arith) goes.stops (omega arith)))
        ∙ ap (λ m. moved_by m (held_as k log items laid None)) (sym (moves k ∙ ap (λ own. stepped own p (1023 - (items - k.items)) (256 - (laid - k.laid))) other))

    own_seen : is_own (own_of k.named.place) s ≡ true → seeing s (held_as k log items laid None) ≡ held_as k log items laid (Some (length log))
    own_seen own =
        ap (λ m. moved_by m (held_as k log items laid None)) (moves k ∙ ap (λ own. stepped own p (1023 - (items - k.items)) (256 - (laid - k.laid))) own ∙ own_ends p (1023 - (items - k.items)) (256 - (laid - k.laid)))
        ∙ ends_here k log items laid start

    seen_as : (o : Option ℕ) → WithinAs (length log) k.start o → IsOpen (length log) items laid k o → (is_own (own_of k.named.place) s ≡ true → has_end o ≡ true)
        → held_as k (log ++ chosen_at p) (suc items) (laid + laid_at p) (end_if (has_end o || ends_at p items laid k) (length log) o) ≡ seeing s (held_as k log items laid o)
    seen_as None within goes own = by (is_own (own_of k.named.place) s) refl
      where
        by : (b : Bool) → is_own (own_of k.named.place) s ≡ b → held_as k (log ++ chosen_at p) (suc items) (laid + laid_at p) (end_if (ends_at p items laid k) (length log) None) ≡ seeing s (held_as k log items laid None)
        by true e = absurd (true≢false (sym (own e)))
        by false e = open_seen goes.2 e (ends_at p items laid k) refl
    seen_as (Some end) within goes own =
        ended_same k log (chosen_at p) items laid (suc items) (laid + laid_at p) end within.0 within.1 ∙ sym (seen_ended s k log items laid end)

  pub one_seen : (k : Kept) → IsKept (length log) items laid k → (is_own (own_of k.named.place) s ≡ true → has_end k.end ≡ true)
      → held_of (log ++ chosen_at p) (suc items) (laid + laid_at p) (closed_if (has_ended p items laid k) (length log) k) ≡ seeing s (held_of log items laid k)
  one_seen k h own =
      held_if (has_ended p items laid k) (length log) k (log ++ chosen_at p) (suc items) (laid + laid_at p)
      ∙ seen_as k h.items_before h.laid_before (start_within k.end (within_as (length log) k h.within)) k.end (within_as (length log) k h.within) h.goes own
    where
      start_within : (o : Option ℕ) → WithinAs (length log) k.start o → k.start ≤ length log
      start_within None w = w.0
      start_within (Some end) w = let a = w.0 in let b = w.1 in omega arith

  -- an entry whose label is here ends first
  pub own_first : (k : Kept) → IsKept (length log) items laid k → is_own (own_of k.named.place) s ≡ true → seeing s (held_of log items laid (closed (length log) k)) ≡ seeing s (held_of log items laid k)
  own_first k h own = seen_ended s k log items laid (end_or k.end (length log)) ∙ by k.end (within_as (length log) k h.within)
    where
      by : (o : Option ℕ) → WithinAs (length log) k.start o → held_as k log items laid (Some (end_or o (length log))) ≡ seeing s (held_as k log items laid o)
      by None w = sym (own_seen k h.items_before h.laid_before w.0 own)
      by (Some end) w = sym (seen_ended s k log items laid end)

-- entries whose paths have ended
pub ended_held : (held : List Kept) (log more : List Bool) (items laid i l : ℕ) → All (IsWithin (length log)) held → All (λ k. has_end k.end ≡ true) held
    → map (held_of (log ++ more) i l) held ≡ map (held_of log items laid) held
ended_held [] log more items laid i l all ended = refl
ended_held (k ∷ held) log more items laid i l all ended =
    ap₂ (λ (x : Held) (xs : List Held). x ∷ xs) (by k.end (within_as (length log) k (All-head (IsWithin (length log)) k held all)) (All-head (λ k. has_end k.end ≡ true) k held ended))
    (ended_held held log more items laid i l (All-tail (IsWithin (length log)) k held all) (All-tail (λ k. has_end k.end ≡ true) k held ended))
  where
    by : (o : Option ℕ) → WithinAs (length log) k.start o → has_end o ≡ true → held_as k (log ++ more) i l o ≡ held_as k log items laid o
    by None w e = absurd (true≢false (sym e))
    by (Some end) w e = ended_same k log more items laid i l end w.0 w.1

pub ended_seen : (s : Option Sight) (k : Kept) (log : List Bool) (items laid : ℕ) → has_end k.end ≡ true → seeing s (held_of log items laid k) ≡ held_of log items laid k
ended_seen s k log items laid e = by k.end e
  where
    by : (o : Option ℕ) → has_end o ≡ true → seeing s (held_as k log items laid o) ≡ held_as k log items laid o
    by None e = absurd (true≢false (sym e))
    by (Some end) e = seen_ended s k log items laid end
