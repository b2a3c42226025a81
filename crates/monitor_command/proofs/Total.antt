-- Each script comes to something: it ends, or the steps are made.
use Rattle.std.proofs.Common.{◌≡◌, ◌⊎◌, ℕ, zero, suc, ◌+◌, ◌-◌, ◌*◌, ◌<◌, ◌≤◌, Bool, true, false, List, [], ◌∷◌, ◌++◌, Option, Some, None, refl, sym, ap, ◌∙◌, subst, inl, inr, ⊎_elim, arith}
use Rattle.std.specs.Prelude.{bytes_eq, slice_get}
use Rattle.std.specs.Option.{option_map}
use Rattle.std.proofs.lemmas.Bool.{cases_eq}
use Rattle.std.proofs.lemmas.Slice.Eq.{bytes_eq-Decides}
use Rattle.bril_commands.specs.commands.Monitor.{CarriesOut, IsPointNamed, Marks, Runs, Session, StopsNext, StopsNowhere, absent_pieces, end_pieces, from_session, marked_with, pieces_after, stop_pieces, stopped_at, stops_by}
use Rattle.bril_tree.specs.Run.{FitMain, state_after}
use Rattle.bril_tree.specs.declared.limits.End.{End}
use Rattle.bril_tree.specs.declared.limits.Limits.{Limits}
use Rattle.bril_tree.specs.declared.numbered_function.Func.{Func}
use Rattle.bril_tree.specs.declared.program.Prog.{Prog}
use Rattle.bril_tree.specs.declared.value.Value.{Value}
use Rattle.monitor_script.specs.declared.order.Order.TheVariants as order
use Rattle.monitor_script.specs.declared.order.Order.{Order}
use Rattle.rv64_image_laws.proofs.Endings.{shown}
use Rattle.rv64_image_laws.proofs.Stopping.{firsts_are_least, none_is_passed}
use Rattle.rv64_image_laws.specs.Implements.{Implements, image_after}
use Rattle.rv64_image_laws.specs.PointsShown.{PointShows, ShowsRun}
use Rattle.rv64_image_laws.specs.Stops.{IsChosenAt, IsFirstChosen}
use Rattle.rv64_words.specs.Points.{ArePointsIn}
use Rattle.rv64_words.specs.State.{State, Stop, Finished}
use Rattle.rv64_words.specs.declared.image.Image.{Image}
use Rattle.rv64_words.specs.declared.points.PointAt.{PointAt}
use Rattle.rv64_words.specs.declared.points.Points.{Points}

-- ---- searches

-- something holds, or it doesn't
abbrev pub Decided : Type 0 → Type 0
Decided P = P ⊎ (P → ⊥)

bool_decided : (b : Bool) → Decided (b ≡ true)
bool_decided true = inl refl
bool_decided false = inr (λ e. cc)

-- P holds of no number from one on and before another, or of this one first
abbrev IsNone : (ℕ → Type 0) → ℕ → ℕ → Type 0
IsNone P from to = (m : ℕ) → from ≤ m → m < to → P m → ⊥

abbrev IsFirst : (ℕ → Type 0) → ℕ → ℕ → Type 0
IsFirst P from to = (m : ℕ) × (from ≤ m) × (m < to) × P m × IsNone P from m

module _ (P : ℕ → Type 0) (decided : (m : ℕ) → Decided (P m)) where
  none_more : (from to : ℕ) → (P from → ⊥) → IsNone P (suc from) to → IsNone P from to
  none_more from to not none m late early is = by (cases_eq m from)
    where
      by : Decided (m ≡ from) → ⊥
      by (inl same) = not (subst P same is)
      by (inr other) = none m (omega arith) early is

  search : (from more : ℕ) → IsFirst P from (from + more) ⊎ IsNone P from (from + more)
  search from zero = inr (λ m late early is. absurd (omega arith))
  search from (suc more) = by (decided from) (search (suc from) more)
    where
      by : Decided (P from) → IsFirst P (suc from) (suc from + more) ⊎ IsNone P (suc from) (suc from + more) → IsFirst P from (from + suc more) ⊎ IsNone P from (from + suc more)
      by (inl is) _ = inl (from, omega arith, omega arith, is, λ m late early other. absurd (omega arith))
      by (inr not) (inl first) = inl (first.0, (let late = first.1 in omega arith), (let early = first.2 in omega arith), first.3, none_more from first.0 not first.4)
      by (inr not) (inr none) = inr (λ m late early is. none_more from (suc from + more) not none m late (omega arith) is)

-- P holds of an element of a list
abbrev IsAmong : {X : Type 0} → (X → Type 0) → List X → Type 0
IsAmong {X} P xs = (k : ℕ) × (x : X) × (slice_get xs k ≡ Some x) × P x

module _ {X : Type 0} (P : X → Type 0) (decided : (x : X) → Decided (P x)) where
  among : (xs : List X) → Decided (IsAmong P xs)
  among [] = inr (λ h. (let none : ◌≡◌ {A = Option X} None (Some h.1) = h.2 in cc))
  among (y ∷ ys) = by (decided y) (among ys)
    where
      some_one : {a b : X} → Some a ≡ Some b → a ≡ b
      some_one e = cc

      neither : (P y → ⊥) → (IsAmong P ys → ⊥) → IsAmong P (y ∷ ys) → ⊥
      neither here there (zero, x, is, holds) = here (subst P (sym (some_one is)) holds)
      neither here there (suc k, x, is, holds) = there (k, x, is, holds)

      by : Decided (P y) → Decided (IsAmong P ys) → Decided (IsAmong P (y ∷ ys))
      by (inl is) _ = inl (0, y, refl, is)
      by (inr not) (inl found) = inl (suc found.0, found.1, found.2, found.3)
      by (inr not) (inr none) = inr (neither not none)

-- ---- what orders come to

-- something holds of an end and an output
abbrev pub ComesTo : (Option End → List (List ℕ) → Type 0) → Type 0
ComesTo Holds = (ended : Option End) × (output : List (List ℕ)) × Holds ended output

some_same : {X : Type 0} {o : Option X} {a b : X} → o ≡ Some a → o ≡ Some b → a ≡ b
some_same e f = cc

none_some : {X : Type 0} {o : Option X} {a : X} → o ≡ None → o ≡ Some a → ⊥
none_some e f = cc

module _ (p : Prog) (points : Points) (name : List ℕ) (item : ℕ) where
  -- the function of a point has the name
  abbrev IsNamed : Option Func → Type 0
  IsNamed o = (func : Func) × (o ≡ Some func) × (func.name ≡ name)

  abbrev IsSought : PointAt → Type 0
  IsSought at = IsNamed (slice_get p.funcs at.func) × (at.item ≡ item)

  named_decided : (o : Option Func) → Decided (IsNamed o)
  named_decided None = inr (λ h. none_some refl h.1)
  named_decided (Some func) = by (bytes_eq func.name name) refl
    where
      by : (b : Bool) → bytes_eq func.name name ≡ b → Decided (IsNamed (Some func))
      by true is = inl (func, refl, (bytes_eq-Decides func.name name).0 is)
      by false is = inr (λ h. other h)
        where
          other : IsNamed (Some func) → ⊥
          other h =
              let named : func.name ≡ name = ap (λ (f : Func). f.name) (some_same refl h.1) ∙ h.2 in
              let no_ : false ≡ true = sym is ∙ (bytes_eq-Decides func.name name).1 named in
              cc

  sought_decided : (at : PointAt) → Decided (IsSought at)
  sought_decided at = by (named_decided (slice_get p.funcs at.func)) (cases_eq at.item item)
    where
      by : Decided (IsNamed (slice_get p.funcs at.func)) → Decided (at.item ≡ item) → Decided (IsSought at)
      by (inl named) (inl same) = inl (named, same)
      by (inl named) (inr other) = inr (λ h. other h.1)
      by (inr not) _ = inr (λ h. not h.0)

  pub named_or_none : ((f : ℕ) × IsPointNamed p points name item f) ⊎ ((f : ℕ) → IsPointNamed p points name item f → ⊥)
  named_or_none = ⊎_elim (λ found. inl (there found)) (λ none. inr (λ f is. none (back f is))) (among IsSought sought_decided points.points)
    where
      there : IsAmong IsSought points.points → (f : ℕ) × IsPointNamed p points name item f
      there found = (
        found.1.func,
        record {
          func = found.3.0.0;
          is_function = found.3.0.1;
          named = found.3.0.2;
          place = found.0;
          at = found.1;
          listed = found.2;
          of_function = refl;
          of_item = found.3.1;
        },
      )

      back : (f : ℕ) → IsPointNamed p points name item f → IsAmong IsSought points.points
      back f is = (is.place, is.at, is.listed, ((is.func, ap (slice_get p.funcs) is.of_function ∙ is.is_function, is.named), is.of_item))

module _ (image : Image) (points : Points) (p : Prog) (limits : Limits) (values : List Value) where
  -- whether the machine is at a chosen point after so many words
  module _ (chosen : ℕ → ℕ → Bool) where
    abbrev pub IsChosenAfter : ℕ → Type 0
    IsChosenAfter m = (at : PointAt) × IsChosenAt image points limits values chosen m at

    abbrev IsHere : State → PointAt → Type 0
    IsHere t at = (t.pc ≡ 4 * at.word) × (chosen at.func at.item ≡ true)

    here_decided : (t : State) (at : PointAt) → Decided (IsHere t at)
    here_decided t at = by (cases_eq t.pc (4 * at.word)) (bool_decided (chosen at.func at.item))
      where
        by : Decided (t.pc ≡ 4 * at.word) → Decided (chosen at.func at.item ≡ true) → Decided (IsHere t at)
        by (inl at_word) (inl is) = inl (at_word, is)
        by (inl at_word) (inr not) = inr (λ h. not h.1)
        by (inr not) _ = inr (λ h. not h.0)

    chosen_decided : (m : ℕ) → Decided (IsChosenAfter m)
    chosen_decided m = by (image_after image limits values m).stopped refl
      where
        there : (image_after image limits values m).stopped ≡ None → IsAmong (IsHere (image_after image limits values m)) points.points → IsChosenAfter m
        there runs found = (found.1, record { is = record { place = found.0; is = found.2; running = runs; at_word = found.3.0 }; by = found.3.1 })

        back : IsChosenAfter m → IsAmong (IsHere (image_after image limits values m)) points.points
        back h = (h.1.is.place, h.0, h.1.is.is, (h.1.is.at_word, h.1.by))

        by : (o : Option Stop) → (image_after image limits values m).stopped ≡ o → Decided (IsChosenAfter m)
        by None runs = ⊎_elim (λ found. inl (there runs found)) (λ none. inr (λ h. none (back h))) (among (IsHere (image_after image limits values m)) (here_decided (image_after image limits values m)) points.points)
        by (Some how) stopped = inr (λ h. none_some h.1.is.running stopped)

  module _ (runs : ShowsRun image points p limits values) (points_in : ArePointsIn image points) (implements : Implements image p limits) (fits : FitMain p values) (steps : ℕ) where
    module _ (any : Bool) (Goes : Session → Option End → List (List ℕ) → Type 0) (goes : (s : Session) → ComesTo (Goes s)) (s : Session) where
      -- the steps are made, or the program ends
      nowhere : StopsNowhere image points p limits values runs steps any s → (o : Option End) → (image_after image limits values steps).stopped ≡ option_map Finished o → ComesTo (Runs image points p limits values runs steps any Goes s)
      nowhere none None is = (None, pieces_after image limits values s.words (steps - s.words), inr (none, inr (refl, is, refl)))
      nowhere none (Some end) is = (Some end, pieces_after image limits values s.words (steps - s.words) ++ end_pieces end, inr (none, inl (end, refl, is, refl)))

      -- the machine stops at the first chosen point
      somewhere : (m : ℕ) (at : PointAt) → m ≤ steps → IsFirstChosen image points limits values (stops_by any s.marked) (from_session s) m at → ComesTo (Runs image points p limits values runs steps any Goes s)
      somewhere m at within first =
          let found = firsts_are_least image points p limits values (stops_by any s.marked) runs (from_session s) m at points_in first in
          let n = found.0 in
          let here : PointShows image p limits (state_after p limits values n) (image_after image limits values (runs.count n)) at =
          subst (λ k. PointShows image p limits (state_after p limits values n) (image_after image limits values k) at) (sym found.1) found.3 in
          let stops : StopsNext image points p limits values runs steps any s n at = record { least = found.2; within = subst (λ k. k ≤ steps) (sym found.1) within; shown = here } in
          let on = goes (stopped_at image points p limits values runs steps any s n at stops) in (
            on.0,
            pieces_after image limits values s.words (runs.count n - s.words) ++ (stop_pieces here.func.name at.item ++ on.1),
            inl (n, at, stops, here.func, here.is_function, on.1, refl, on.2),
          )

      pub runs_total : ComesTo (Runs image points p limits values runs steps any Goes s)
      runs_total = ⊎_elim found none (search (IsChosenAfter (stops_by any s.marked)) (chosen_decided (stops_by any s.marked)) (from_session s) (suc steps - from_session s))
        where
          found : IsFirst (IsChosenAfter (stops_by any s.marked)) (from_session s) (from_session s + (suc steps - from_session s)) → ComesTo (Runs image points p limits values runs steps any Goes s)
          found first =
              let late = first.1 in
              let early = first.2 in
              somewhere first.0 first.3.0 (omega arith) (record { late = first.1; is = first.3.1; none = λ n at late early is. first.4 n late early (at, is) })

          none : IsNone (IsChosenAfter (stops_by any s.marked)) (from_session s) (from_session s + (suc steps - from_session s)) → ComesTo (Runs image points p limits values runs steps any Goes s)
          none never =
              let all = none_is_passed image points p limits values (stops_by any s.marked) runs (from_session s) (from_session s + (suc steps - from_session s)) (λ m at late early is. never m late early (at, is)) in
              let ends = shown implements.homes image p limits values (implements.implements.runs values fits) steps in
              nowhere (λ n ahead. (let past = all n ahead in omega arith)) ends.0 ends.1

    marks_total : (on : Bool) (name : List ℕ) (item : ℕ) (Goes : Session → Option End → List (List ℕ) → Type 0) → ((s : Session) → ComesTo (Goes s)) → (s : Session) → ComesTo (Marks image points p limits values runs steps on name item Goes s)
    marks_total on name item Goes goes s = by (named_or_none p points name item)
      where
        by : ((f : ℕ) × IsPointNamed p points name item f) ⊎ ((f : ℕ) → IsPointNamed p points name item f → ⊥) → ComesTo (Marks image points p limits values runs steps on name item Goes s)
        by (inl found) = let more = goes (record s { marked = marked_with found.0 item on s.marked }) in (more.0, more.1, inl (found.0, found.1, more.2))
        by (inr none) = let more = goes s in (more.0, absent_pieces name item ++ more.1, inr (none, (more.1, refl, more.2)))

    -- each script comes to something
    pub carries_out_total : (orders : List Order) (s : Session) → ComesTo (CarriesOut image points p limits values runs steps orders s)
    carries_out_total [] s = (_, [], (refl, refl))
    carries_out_total (order.Break name item ∷ rest) s = marks_total true name item (CarriesOut image points p limits values runs steps rest) (carries_out_total rest) s
    carries_out_total (order.Clear name item ∷ rest) s = marks_total false name item (CarriesOut image points p limits values runs steps rest) (carries_out_total rest) s
    carries_out_total (order.Go ∷ rest) s = runs_total false (CarriesOut image points p limits values runs steps rest) (carries_out_total rest) s
    carries_out_total (order.Step ∷ rest) s = runs_total true (CarriesOut image points p limits values runs steps rest) (carries_out_total rest) s
    carries_out_total (order.Show ∷ rest) s = let more = carries_out_total rest s in (more.0, s.lines ++ more.1, (more.1, refl, more.2))
