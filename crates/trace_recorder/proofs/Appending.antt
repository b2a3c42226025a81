-- One state more at the end of a run.
use Rattle.std.proofs.Common.{◌≡◌, ℕ, suc, ◌≤◌, ◌&&◌, max, min, Bool, true, false, cond, List, [], ◌∷◌, ◌++◌, map, Option, Some, None, refl, ap, subst, arith, append-nil}
use Rattle.std.specs.Prelude.{◌==◌}
use Rattle.std.proofs.lemmas.Bool.{eq-eqb}
use Rattle.std.proofs.lemmas.Option.{same_Some}
use Rattle.bril_tree.specs.declared.program.Prog.{Prog}
use Rattle.trace_recorder.specs.declared.arrival.Arrival.{Arrival}
use Rattle.trace_recorder.specs.Sight.{Sight, arrival}
use Rattle.trace_recorder.specs.Recorded.{Own, Move, Ends, Goes, Chooses, move, chosen_on, choices_on, counted, counts_on, most_count, is_hot, func_name, label_name, own_of, entry_on, entries_on}
use Rattle.trace_recorder.specs.Standing.{rest_of, left_on, left_after, held_at, held_on, added, seeing, count_in, entry_of}

-- the choices of one entry
pub choices-append : (own : Own) (run : List (Option Sight)) (fuel room : ℕ) (s : Option Sight)
    → choices_on own fuel room (run ++ s ∷ []) ≡ choices_on own fuel room run ++ added (move own (left_after own fuel room run).0 (left_after own fuel room run).1 s)
choices-append own [] fuel room s = by (move own fuel room s)
  where
    by : (m : Move) → chosen_on (λ fuel room. []) m ≡ added m
    by Ends = refl
    by (Goes f r) = refl
    by (Chooses c f r) = refl
choices-append own (t ∷ run) fuel room s = by (move own fuel room t) (λ f r. choices-append own run f r s)
  where
    by : (m : Move) → ((f r : ℕ) → choices_on own f r (run ++ s ∷ []) ≡ choices_on own f r run ++ added (move own (left_after own f r run).0 (left_after own f r run).1 s))
        → chosen_on (λ fuel room. choices_on own fuel room (run ++ s ∷ [])) m
        ≡ chosen_on (λ fuel room. choices_on own fuel room run) m ++ added (move own (left_on (λ fuel room. left_after own fuel room run) m).0 (left_on (λ fuel room. left_after own fuel room run) m).1 s)
    by Ends rest = refl
    by (Goes f r) rest = rest f r
    by (Chooses c f r) rest = ap (λ l. c ∷ l) (rest f r)

-- what may still be met and laid
pub left-append : (own : Own) (run : List (Option Sight)) (fuel room : ℕ) (s : Option Sight)
    → left_after own fuel room (run ++ s ∷ []) ≡ rest_of (move own (left_after own fuel room run).0 (left_after own fuel room run).1 s)
left-append own [] fuel room s = by (move own fuel room s)
  where
    by : (m : Move) → left_on (λ fuel room. (fuel, room)) m ≡ rest_of m
    by Ends = refl
    by (Goes f r) = refl
    by (Chooses c f r) = refl
left-append own (t ∷ run) fuel room s = by (move own fuel room t) (λ f r. left-append own run f r s)
  where
    by : (m : Move) → ((f r : ℕ) → left_after own f r (run ++ s ∷ []) ≡ rest_of (move own (left_after own f r run).0 (left_after own f r run).1 s))
        → left_on (λ fuel room. left_after own fuel room (run ++ s ∷ [])) m
        ≡ rest_of (move own (left_on (λ fuel room. left_after own fuel room run) m).0 (left_on (λ fuel room. left_after own fuel room run) m).1 s)
    by Ends rest = refl
    by (Goes f r) rest = rest f r
    by (Chooses c f r) rest = rest f r

pub counts-append : (run : List (Option Sight)) (counts : ℕ → ℕ → ℕ) (s : Option Sight) → counts_on counts (run ++ s ∷ []) ≡ counted (arrival s) (counts_on counts run)
counts-append [] counts s = refl
counts-append (t ∷ run) counts s = counts-append run (counted (arrival t) counts) s

-- all entries: those that were begun see the state, and perhaps one more begins
pub held-append : (P : Prog) (hot : ℕ) (run : List (Option Sight)) (counts : ℕ → ℕ → ℕ) (s : Option Sight)
    → held_on P hot counts (run ++ s ∷ []) ≡ map (seeing s) (held_on P hot counts run) ++ held_at P (is_hot hot (counts_on counts run) (arrival s)) []
held-append P hot [] counts s = append-nil (held_at P (is_hot hot counts (arrival s)) [])
held-append P hot (t ∷ run) counts s = by (is_hot hot counts (arrival t)) (held-append P hot run (counted (arrival t) counts) s)
  where
    by : (a : Option Arrival)
        → held_on P hot (counted (arrival t) counts) (run ++ s ∷ []) ≡ map (seeing s) (held_on P hot (counted (arrival t) counts) run) ++ held_at P (is_hot hot (counts_on (counted (arrival t) counts) run) (arrival s)) []
        → held_at P a (run ++ s ∷ []) ++ held_on P hot (counted (arrival t) counts) (run ++ s ∷ [])
        ≡ map (seeing s) (held_at P a run ++ held_on P hot (counted (arrival t) counts) run) ++ held_at P (is_hot hot (counts_on (counted (arrival t) counts) run) (arrival s)) []
    by None rest = rest
    by (Some a) rest =
        let c = choices-append (own_of a) run 1023 256 s in
        let l = left-append (own_of a) run 1023 256 s in
        λ i. record {
          func = func_name P a;
          label = label_name P a;
          place = a;
          choices = c i;
          fuel = (l i).0;
          room = (l i).1;
        } ∷ rest i

-- ---- what is held has the entries of the run

pub counted_rises : (o : Option Arrival) (counts : ℕ → ℕ → ℕ) (f l : ℕ) → counts f l ≤ counted o counts f l
counted_rises None counts f l = omega arith
counted_rises (Some a) counts f l = by ((a.func == f) && (a.label == l))
  where
    by : (t : Bool) → counts f l ≤ cond t (suc (counts f l)) (counts f l)
    by true = omega arith
    by false = omega arith

pub counts_rise : (run : List (Option Sight)) (counts : ℕ → ℕ → ℕ) (f l : ℕ) → counts f l ≤ counts_on counts run f l
counts_rise [] counts f l = omega arith
counts_rise (s ∷ run) counts f l = let a = counted_rises (arrival s) counts f l in let b = counts_rise run (counted (arrival s) counts) f l in omega arith

pub counted_here : (a : Arrival) (counts : ℕ → ℕ → ℕ) → counted (Some a) counts a.func a.label ≡ suc (counts a.func a.label)
counted_here a counts = rw (eq-eqb a.func a.func refl, eq-eqb a.label a.label refl) refl

-- a hot arrival is one
hot_counted : (hot : ℕ) (counts : ℕ → ℕ → ℕ) (o : Option Arrival) (a : Arrival) → is_hot hot counts o ≡ Some a → 1 ≤ counted o counts a.func a.label
hot_counted hot counts None a e = absurd (let n : None ≡ Some a = e in cc)
hot_counted hot counts (Some b) a e = by (suc (counts b.func b.label) == hot) e
  where
    by : (t : Bool) → cond t (Some b) None ≡ Some a → 1 ≤ counted (Some b) counts a.func a.label
    by true e = subst (λ c. 1 ≤ counted (Some b) counts c.func c.label) (same_Some b a e) (let h = counted_here b counts in omega arith)
    by false e = absurd (let n : None ≡ Some a = e in cc)

module _ (P : Prog) (hot : ℕ) (total : ℕ → ℕ → ℕ) (rows : List (List ℕ)) (are : (f l : ℕ) → count_in rows f l ≡ min (total f l) most_count) where
  pub held-entries : (run : List (Option Sight)) (counts : ℕ → ℕ → ℕ) → ((f l : ℕ) → counts_on counts run f l ≤ total f l) → map (entry_of rows) (held_on P hot counts run) ≡ entries_on P hot total counts run
  held-entries [] counts within = refl
  held-entries (t ∷ run) counts within = by (is_hot hot counts (arrival t)) refl (held-entries run (counted (arrival t) counts) within)
    where
      by : (o : Option Arrival) → is_hot hot counts (arrival t) ≡ o
          → map (entry_of rows) (held_on P hot (counted (arrival t) counts) run) ≡ entries_on P hot total (counted (arrival t) counts) run
          → map (entry_of rows) (held_at P o run ++ held_on P hot (counted (arrival t) counts) run) ≡ entry_on P total o run ++ entries_on P hot total (counted (arrival t) counts) run
      by None e rest = rest
      by (Some a) e rest =
          let some : 1 ≤ total a.func a.label = (let h = hot_counted hot counts (arrival t) a e in let r = counts_rise run (counted (arrival t) counts) a.func a.label in let w = within a.func a.label in omega arith) in
          let is : max (count_in rows a.func a.label) 1 ≡ min (total a.func a.label) most_count = (let h = are a.func a.label in omega arith) in
          λ i. record { func = func_name P a; label = label_name P a; choices = choices_on (own_of a) 1023 256 run; count = is i } ∷ rest i
