-- A recorder that sees one state more.
use Rattle.std.proofs.Common.{◌≡◌, inr, ℕ, suc, ◌^◌, ◌<◌, min, Bool, true, false, cond, List, [], ◌∷◌, ◌++◌, length, map, take, Option, Some, None, refl, sym, ap, ap₂, subst, ◌∙◌, arith, append-nil}
use Rattle.std.specs.Prelude.{◌==◌}
use Rattle.std.proofs.lemmas.List.{map-append}
use Rattle.bril_tree.specs.declared.numbered_function.Func.{Func}
use Rattle.bril_tree.specs.declared.program.Prog.{Prog}
use Rattle.bril_tree.specs.State.{State}
use Rattle.trace_paths.specs.Fits.{count_of}
use Rattle.trace_paths.specs.Taken.{taken}
use Rattle.trace_recorder.specs.declared.arrival.Arrival.{Arrival}
use Rattle.trace_recorder.specs.declared.kept.Named.{Named}
use Rattle.trace_recorder.specs.Kept.{begun_held, AreBegun}
use Rattle.trace_recorder.specs.Sight.{Sight, sight, arrival}
use Rattle.trace_recorder.specs.Recorded.{no_counts, counted, counts_on, most_count, is_hot, recorded}
use Rattle.trace_recorder.specs.Standing.{Held, held_at, held_on, count_in, seeing, RecorderView, StandsFor, begun_at, begins, entry_of, entries_of}
use Rattle.trace_recorder.specs.Counts.{counted_at, counts_from, AreFirst}
use Rattle.trace_recorder.proofs.Appending.{counts-append, held-append, held-entries}
use Rattle.trace_recorder.proofs.Counting.{first_read, first_sized, place_counted, place_of, counted_more, counted_sized, hot_same}

-- ---- one state more

abbrev pub after : Prog → Option Sight → Option (List (List ℕ)) → RecorderView → RecorderView
after P s first r = record {
  hot = r.hot;
  most = r.most;
  counts = counted_at (counts_from first r.counts) (arrival s);
  held = map (seeing s) r.held ++ begun_at P (begins r (arrival s));
}

begun-is : (P : Prog) (a : Option Arrival) → held_at P a [] ≡ begun_at P a
begun-is P None = refl
begun-is P (Some a) = refl

module _ (P : Prog) (r : RecorderView) (hot most : ℕ) (run : List State) (stands : StandsFor r P hot most run) (few : r.hot < 2 ^ 32) (st : State) where
  abbrev all : List (Option Sight)
  all = map (sight P) run

  abbrev s : Option Sight
  s = sight P st

  abbrev held_so : List Held
  held_so = held_on P hot no_counts all

  longer : map (sight P) (run ++ st ∷ []) ≡ all ++ s ∷ []
  longer = map-append (sight P) run (st ∷ [])

  same_hot : (a : Option Arrival) → begins r a ≡ is_hot hot (counts_on no_counts all) a
  same_hot None = refl
  same_hot (Some a) = ap (λ b. cond b (Some a) None)
      (ap (λ n. suc n == r.hot) (stands.counts a.func a.label) ∙ hot_same (counts_on no_counts all a.func a.label) r.hot few ∙ ap (λ n. suc (counts_on no_counts all a.func a.label) == n) stands.hot_is)

  held_after : map (seeing s) r.held ++ begun_at P (begins r (arrival s)) ≡ held_on P hot no_counts (map (sight P) (run ++ st ∷ []))
  held_after =
      ap₂ (λ hs a. map (seeing s) hs ++ begun_at P a) stands.held (same_hot (arrival s))
      ∙ ap (λ l. map (seeing s) held_so ++ l) (sym (begun-is P (is_hot hot (counts_on no_counts all) (arrival s))))
      ∙ sym (held-append P hot all no_counts s) ∙ ap (held_on P hot no_counts) (sym longer)

  -- where no path goes on, and the state is no arrival
  pub quiet : arrival s ≡ None → map (seeing s) r.held ≡ r.held → StandsFor r P hot most (run ++ st ∷ [])
  quiet none ended = record {
    hot_is = stands.hot_is;
    most_is = stands.most_is;
    held = sym (ap (λ a. map (seeing s) r.held ++ begun_at P (begins r a)) none ∙ append-nil (map (seeing s) r.held) ∙ ended) ∙ held_after;
    sized = stands.sized;
    counts = λ f l.
        stands.counts f l ∙ ap (λ a. min (counted a (counts_on no_counts all) f l) most_count) (sym none)
        ∙ ap (λ (c : ℕ → ℕ → ℕ). min (c f l) most_count) (sym (counts-append all no_counts s) ∙ ap (counts_on no_counts) (sym longer));
  }

  module _ (first : Option (List (List ℕ))) (tables : AreFirst P r.counts first) where
    sized_after : map length (counts_from first r.counts) ≡ map (λ (f : Func). length f.labels) P.funcs
    sized_after = first_sized P r.counts first tables stands.sized

    counts_by : (a : Option Arrival) → arrival s ≡ a → (f l : ℕ) → count_in (counted_at (counts_from first r.counts) a) f l ≡ min (counted a (counts_on no_counts all) f l) most_count
    counts_by None e f l = first_read P r.counts first tables f l ∙ stands.counts f l
    counts_by (Some a) e f l =
        counted_more (counts_from first r.counts) a (counts_on no_counts all) (place_counted P (counts_from first r.counts) a sized_after (place_of P st a e))
        (λ g m. first_read P r.counts first tables g m ∙ stands.counts g m) f l

    pub stands_after : StandsFor (after P s first r) P hot most (run ++ st ∷ [])
    stands_after = record {
      hot_is = stands.hot_is;
      most_is = stands.most_is;
      held = held_after;
      sized = inr (counted_sized (counts_from first r.counts) (arrival s) ∙ sized_after);
      counts = λ f l. counts_by (arrival s) refl f l ∙ ap (λ (c : ℕ → ℕ → ℕ). min (c f l) most_count) (sym (counts-append all no_counts s) ∙ ap (counts_on no_counts) (sym longer));
    }

-- the same, by the parts of the recorder
pub seeing_on : (P Q : Prog) (r new : RecorderView) (st : State) (first : Option (List (List ℕ))) (a : Option Arrival) (more : List Held) (hot most : ℕ) (run : List State)
    → Q ≡ P → a ≡ arrival (sight P st) → r.hot < 2 ^ 32 → AreFirst Q r.counts first → more ≡ begun_at Q (begins r a)
    → new ≡ record r { counts = counted_at (counts_from first r.counts) a; held = map (seeing (sight P st)) r.held ++ more }
    → StandsFor r P hot most run → StandsFor new P hot most (run ++ st ∷ [])
seeing_on P Q r new st first a more hot most run same there few tables begun made stands =
    let all : record r { counts = counted_at (counts_from first r.counts) a; held = map (seeing (sight P st)) r.held ++ more } ≡ after P (sight P st) first r =
    (λ i. record r { counts = counted_at (counts_from first r.counts) a; held = map (seeing (sight P st)) r.held ++ begun i })
    ∙ (λ i. record r { counts = counted_at (counts_from first r.counts) (there i); held = map (seeing (sight P st)) r.held ++ begun_at (same i) (begins r (there i)) }) in
    subst (λ v. StandsFor v P hot most (run ++ st ∷ [])) (sym (made ∙ all)) (stands_after P r hot most run stands few st first (subst (λ p. AreFirst p r.counts first) same tables))

pub begins_is : (r : RecorderView) (a : Option Arrival) (b : Arrival) → begins r a ≡ Some b → a ≡ Some b
begins_is r None b e = e
begins_is r (Some a) b e = by (suc (count_in r.counts a.func a.label) == r.hot) e
  where
    by : (t : Bool) → cond t (Some a) None ≡ Some b → Some a ≡ Some b
    by true e = e
    by false e = absurd (let n : None ≡ Some b = e in cc)

-- what begins has the names of the arrival's label
pub begun_so : (P : Prog) (a : Option Arrival) (named : Option Named) → AreBegun P a named → begun_held named ≡ begun_at P a
begun_so P None None h = refl
begun_so P None (Some n) h = absurd h
begun_so P (Some a) None h = absurd h
begun_so P (Some a) (Some n) h = λ i. record { func = h.func i; label = h.label i; place = h.place i; choices = []; fuel = 1023; room = 256 } ∷ []

-- the view step by step
pub seen_so : (s : Option Sight) (first : Option (List (List ℕ))) (a : Option Arrival) (more : List Held) (r r1 r2 r3 r4 : RecorderView) (held : List Held) (counts : List (List ℕ))
    → r1 ≡ r → r2 ≡ record r1 { held = held } → held ≡ map (seeing s) r1.held → r3 ≡ record r2 { counts = counts } → counts ≡ counted_at (counts_from first r2.counts) a
    → r4 ≡ record r3 { held = r3.held ++ more } → r4 ≡ record r { counts = counted_at (counts_from first r.counts) a; held = map (seeing s) r.held ++ more }
seen_so s first a more r r1 r2 r3 r4 held counts e1 e2 is e3 are e4 =
    e4
    ∙ ap (λ (z : RecorderView). record z { held = z.held ++ more }) (e3 ∙ (λ i. record r2 { counts = are i }))
    ∙ ap (λ (z : RecorderView). record z { counts = counted_at (counts_from first z.counts) a; held = z.held ++ more }) (e2 ∙ (λ i. record r1 { held = is i }))
    ∙ ap (λ (z : RecorderView). record z { counts = counted_at (counts_from first z.counts) a; held = map (seeing s) z.held ++ more }) e1

-- the same, where no path goes on, and the arrival begins no entry
pub counted_on : (P : Prog) (r new : RecorderView) (st : State) (a : Option Arrival) → a ≡ arrival (sight P st) → r.hot < 2 ^ 32 → (r.counts ≡ [] → ⊥) → begins r a ≡ None
    → map (seeing (sight P st)) r.held ≡ r.held → new ≡ record r { counts = counted_at r.counts a }
    → (hot most : ℕ) (run : List State) → StandsFor r P hot most run → StandsFor new P hot most (run ++ st ∷ [])
counted_on P r new st a is_a few some none ended made hot most run stands =
    seeing_on P P r new st None a [] hot most run refl is_a few some (ap (begun_at P) (sym none))
    (made ∙ (λ i. record r { counts = counted_at r.counts a; held = (sym ended ∙ sym (append-nil (map (seeing (sight P st)) r.held))) i })) stands

-- ---- the profile

pub profile_of : (r : RecorderView) (P : Prog) (hot most : ℕ) (run : List State) → StandsFor r P hot most run → entries_of r ≡ recorded P hot most run
profile_of r P hot most run stands =
    let all = map (sight P) run in
    ap₂ (λ n hs. take n (taken count_of (map (entry_of r.counts) hs))) stands.most_is stands.held
    ∙ ap (λ es. take most (taken count_of es)) (held-entries P hot (counts_on no_counts (map (sight P) run)) r.counts stands.counts (map (sight P) run) no_counts (λ f l. omega arith))
