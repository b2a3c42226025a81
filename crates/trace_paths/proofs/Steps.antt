-- One step of a path.
use Rattle.std.proofs.Common.{◌≡◌, ℕ, zero, suc, ◌<◌, ◌≤◌, ◌-◌, ◌+◌, ◌⊎◌, inl, inr, Bool, List, [], ◌∷◌, ◌++◌, length, drop, append_assoc, append-nil, Option, Some, None, refl, sym, ap, ◌∙◌, cond, arith}
use Rattle.std.specs.Prelude.{slice_get, slice_index}
use Rattle.std.proofs.lemmas.Bool.{ne_eqb, eq-eqb}
use Rattle.std.proofs.lemmas.Option.{get_or_from_slice_get, same_Some}
use Rattle.bril_tree.specs.declared.numbered.Instr.{Instr}
use Rattle.bril_tree.specs.Step.{point_of}
use Rattle.trace_paths.specs.Path.{Path, Leg, Straight, Turn, Meeting, Lays, Turns, chosen, stopped, with_leg, path_from, path_by, item_met}
use Rattle.trace_paths.specs.Meetings.{meeting_of}
use Rattle.trace_paths.specs.Walked.{behind_legs, later}
use Rattle.bril_tree.specs.Labels.{IsLabelTable}
use Rattle.trace_paths.specs.declared.met.Meeting as kept_met
use Rattle.trace_paths.specs.declared.met.Meeting.TheVariants as is

pub path-on : (code : List Instr) (own fuel room : ℕ) (choices : List Bool) (i : ℕ) → 0 < fuel → (i ≡ own → ⊥) → path_from code own fuel room choices i ≡ path_by code (path_from code own (fuel - 1)) (item_met (slice_get code i)) room choices i
path-on code own zero room choices i h n = absurd (omega arith)
path-on code own (suc fuel) room choices i h n =
    ap (λ b. cond b (stopped i) (path_by code (path_from code own fuel) (item_met (slice_get code i)) room choices i)) (ne_eqb i own n)
    ∙ (let e : fuel ≡ suc fuel - 1 = omega arith in ap (λ k. path_by code (path_from code own k) (item_met (slice_get code i)) room choices i) e)

pub path-spent : (code : List Instr) (own fuel room : ℕ) (choices : List Bool) (i : ℕ) → fuel ≡ 0 → path_from code own fuel room choices i ≡ stopped i
path-spent code own zero room choices i e = refl
path-spent code own (suc fuel) room choices i e = absurd (omega arith)

pub path-own : (code : List Instr) (own fuel room : ℕ) (choices : List Bool) (i : ℕ) → i ≡ own → path_from code own fuel room choices i ≡ stopped i
path-own code own zero room choices i e = refl
path-own code own (suc fuel) room choices i e = ap (λ b. cond b (stopped i) (path_by code (path_from code own fuel) (item_met (slice_get code i)) room choices i)) (eq-eqb i own e)

-- ---- the invariant of the loop

module _ (code : List Instr) (own fuel : ℕ) (legs : List Leg) (whole : Path) (room : ℕ) (choices : List Bool) (i : ℕ) (same : behind_legs legs (path_from code own fuel room choices i) ≡ whole) where
  stop-legs : path_from code own fuel room choices i ≡ stopped i → legs ≡ whole.legs
  stop-legs e = sym (append-nil legs) ∙ ap (λ (p : Path). legs ++ p.legs) (sym e) ∙ ap (λ (p : Path). p.legs) same

  stop-at : path_from code own fuel room choices i ≡ stopped i → i ≡ whole.stop
  stop-at e = ap (λ (p : Path). p.stop) (sym e) ∙ ap (λ (p : Path). p.stop) same

  module _ (some : 0 < fuel) (other : i ≡ own → ⊥) where
    pub stops-legs : ((next : ℕ → List Bool → ℕ → Path) → path_by code next (item_met (slice_get code i)) room choices i ≡ stopped i) → legs ≡ whole.legs
    stops-legs e = stop-legs (path-on code own fuel room choices i some other ∙ e (path_from code own (fuel - 1)))

    pub stops-at : ((next : ℕ → List Bool → ℕ → Path) → path_by code next (item_met (slice_get code i)) room choices i ≡ stopped i) → i ≡ whole.stop
    stops-at e = stop-at (path-on code own fuel room choices i some other ∙ e (path_from code own (fuel - 1)))

    pub walks : (to : ℕ) → ((next : ℕ → List Bool → ℕ → Path) → path_by code next (item_met (slice_get code i)) room choices i ≡ next room choices to) → behind_legs legs (path_from code own (fuel - 1) room choices to) ≡ whole
    walks to e = ap (behind_legs legs) (sym (path-on code own fuel room choices i some other ∙ e (path_from code own (fuel - 1)))) ∙ same

    pub lays : (to room' : ℕ) (choices' : List Bool) (leg : Leg) → ((next : ℕ → List Bool → ℕ → Path) → path_by code next (item_met (slice_get code i)) room choices i ≡ with_leg leg (next room' choices' to)) → behind_legs (legs ++ leg ∷ []) (path_from code own (fuel - 1) room' choices' to) ≡ whole
    lays to room' choices' leg e =
        (λ z. record { legs = append_assoc legs (leg ∷ []) (path_from code own (fuel - 1) room' choices' to).legs z; stop = (path_from code own (fuel - 1) room' choices' to).stop })
        ∙ ap (behind_legs legs) (sym (path-on code own fuel room choices i some other ∙ e (path_from code own (fuel - 1)))) ∙ same

  pub ends-legs : (fuel ≡ 0) ⊎ (i ≡ own) → legs ≡ whole.legs
  ends-legs (inl e) = stop-legs (path-spent code own fuel room choices i e)
  ends-legs (inr e) = stop-legs (path-own code own fuel room choices i e)

  pub ends-at : (fuel ≡ 0) ⊎ (i ≡ own) → i ≡ whole.stop
  ends-at (inl e) = stop-at (path-spent code own fuel room choices i e)
  ends-at (inr e) = stop-at (path-own code own fuel room choices i e)

pub later-drop : (n : ℕ) (choices : List Bool) → drop (n + 1) choices ≡ later (drop n choices)
later-drop n choices = let e : n + 1 ≡ suc n = omega arith in ap (λ k. drop k choices) e ∙ by n choices
  where
    by : (n : ℕ) (choices : List Bool) → drop (suc n) choices ≡ later (drop n choices)
    by zero [] = refl
    by zero (c ∷ choices) = refl
    by (suc n) [] = refl
    by (suc n) (c ∷ choices) = by n choices

-- ---- one turn

abbrev pub IsLaid : kept_met.Meeting → Type 0
IsLaid is.Lays = Unit {0}
IsLaid (is.Turns l k) = Unit {0}
IsLaid _ = ⊥

module _ (code : List Instr) (next : ℕ → List Bool → ℕ → Path) (o : Option Instr) (room : ℕ) (choices : List Bool) (i : ℕ) (m : kept_met.Meeting) (met : meeting_of m ≡ item_met o) where
  abbrev By : Meeting → Path
  By k = path_by code next k room choices i

  pub lays-on : m ≡ is.Lays → 0 < room → path_by code next (item_met o) room choices i ≡ with_leg (Straight i) (next (room - 1) choices (i + 1))
  lays-on e some = ap By (sym met ∙ ap meeting_of e) ∙ by room some
    where
      by : (r : ℕ) → 0 < r → path_by code next Lays r choices i ≡ with_leg (Straight i) (next (r - 1) choices (i + 1))
      by zero h = absurd (omega arith)
      by (suc r) h = let a : r ≡ suc r - 1 = omega arith in let b : suc i ≡ i + 1 = omega arith in ap (λ k. with_leg (Straight i) (next k choices (suc i))) a ∙ ap (λ k. with_leg (Straight i) (next (suc r - 1) choices k)) b

  pub full-on : IsLaid m → room ≡ 0 → path_by code next (item_met o) room choices i ≡ stopped i
  full-on laid none = ap By (sym met) ∙ ap (λ r. path_by code next (meeting_of m) r choices i) none ∙ by m laid
    where
      by : (k : kept_met.Meeting) → IsLaid k → path_by code next (meeting_of k) 0 choices i ≡ stopped i
      by is.Lays h = refl
      by (is.Turns l k) h = refl
      by _ h = absurd h

  pub stops-on : m ≡ is.Stops → path_by code next (item_met o) room choices i ≡ stopped i
  stops-on e = ap By (sym met ∙ ap meeting_of e)

  pub none-on : (l k : ℕ) → m ≡ is.Turns l k → choices ≡ [] → path_by code next (item_met o) room choices i ≡ stopped i
  none-on l k e none = ap By (sym met ∙ ap meeting_of e) ∙ ap (λ cs. path_by code next (Turns l k) room cs i) none ∙ by room
    where
      by : (r : ℕ) → path_by code next (Turns l k) r [] i ≡ stopped i
      by zero = refl
      by (suc r) = refl

  pub choose-on : (l k : ℕ) (c : Bool) → m ≡ is.Turns l k → 0 < room → slice_get choices 0 ≡ Some c → path_by code next (item_met o) room choices i ≡ with_leg (Turn i c) (next (room - 1) (later choices) (point_of (chosen c l k) code))
  choose-on l k c e some first = ap By (sym met ∙ ap meeting_of e) ∙ by room choices some first
    where
      by : (r : ℕ) (cs : List Bool) → 0 < r → slice_get cs 0 ≡ Some c → path_by code next (Turns l k) r cs i ≡ with_leg (Turn i c) (next (r - 1) (later cs) (point_of (chosen c l k) code))
      by zero cs h g = absurd (omega arith)
      by (suc r) [] h g = absurd (let z : None ≡ Some c = g in cc)
      by (suc r) (d ∷ cs) h g =
          let same : d ≡ c = same_Some d c g in
          let a : r ≡ suc r - 1 = omega arith in
          ap (λ x. with_leg (Turn i x) (next r cs (point_of (chosen x l k) code))) same ∙ ap (λ n. with_leg (Turn i c) (next n cs (point_of (chosen c l k) code))) a

pub drop-first : (n : ℕ) (xs : List Bool) (c : Bool) → slice_get xs n ≡ Some c → slice_get (drop n xs) 0 ≡ Some c
drop-first zero xs c e = e
drop-first (suc n) [] c e = e
drop-first (suc n) (x ∷ xs) c e = drop-first n xs c e

pub point-inside : (code : List Instr) (points : List ℕ) (l : ℕ) → IsLabelTable code points → l < length points → slice_index points l ≡ point_of l code
point-inside code points l table less = get_or_from_slice_get points l (point_of l code) 0 (table.at l less)

pub used-more : (n : ℕ) (xs : List Bool) → 0 < length (drop n xs) → n + 1 ≤ length xs
used-more zero [] h = absurd (omega arith)
used-more zero (x ∷ xs) h = omega arith
used-more (suc n) [] h = absurd (omega arith)
used-more (suc n) (x ∷ xs) h = let r = used-more n xs h in omega arith
