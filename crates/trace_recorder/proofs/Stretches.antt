-- A recorder of many states at which nothing is to be done but to count arrivals.
use Rattle.std.proofs.Common.{◌≡◌, ℕ, zero, suc, ◌^◌, ◌<◌, cond, List, [], ◌∷◌, ◌++◌, length, map, Option, Some, None, refl, sym, ap, subst, ◌∙◌, arith, append-nil}
use Rattle.std.specs.Prelude.{slice_index_or}
use Rattle.std.proofs.lemmas.Bool.{ne_eqb}
use Rattle.std.proofs.lemmas.List.{append_assoc}
use Rattle.bril_tree.specs.declared.numbered.Instr.{Instr}
use Rattle.bril_tree.specs.declared.numbered.Instr.TheVariants.{Label, Const, Act}
use Rattle.bril_tree.specs.declared.program.Prog.{Prog}
use Rattle.bril_tree.specs.State.{Frame, State}
use Rattle.bril_tree.specs.Step.{item_at}
use Rattle.bril_interpreter.specs.Arrivals.{label_of, rows_with, IsCold, counted_by, IsColdBy, counts_after, Counts}
use Rattle.bril_interpreter.specs.Interpreter.{InterpView, newest_frame, state_of}
use Rattle.bril_interpreter.specs.StepAnswers.{reached_after, stepped}
use Rattle.trace_recorder.specs.declared.arrival.Arrival.{Arrival}
use Rattle.trace_recorder.specs.Counts.{counted_at}
use Rattle.trace_recorder.specs.Sight.{Sight, sight, sight_in, sight_at, arrival}
use Rattle.trace_recorder.specs.Standing.{RecorderView, StandsFor, begins, count_in, seeing, states_before}
use Rattle.trace_recorder.proofs.Counting.{counted_sized}
use Rattle.trace_recorder.proofs.Seeing.{counted_on}
use Rattle.trace_recorder.proofs.Shapes.{no_rows}

-- the arrival that a state is, as the interpreter counts it
counted-same : (P : Prog) (s : State) (rows : List (List ℕ)) → counted_by P (newest_frame s) rows ≡ counted_at rows (arrival (sight P s))
counted-same P s rows = by (newest_frame s)
  where
    by_item : (frame : Frame) (o : Option Instr) → rows_with frame.function (label_of o) rows ≡ counted_at rows (arrival (sight_at frame o))
    by_item frame None = refl
    by_item frame (Some (Label l)) = refl
    by_item frame (Some (Const d ty v)) = refl
    by_item frame (Some (Act d ty o args fns ls)) = refl

    by : (f : Option Frame) → counted_by P f rows ≡ counted_at rows (arrival (sight_in P f))
    by None = refl
    by (Some frame) = by_item frame (item_at P frame.function frame.point)

-- one that isn't the hot one begins no entry
cold-begins : (P : Prog) (s : State) (r : RecorderView) → IsColdBy P r.hot (newest_frame s) r.counts → begins r (arrival (sight P s)) ≡ None
cold-begins P s r cold = by (newest_frame s) cold
  where
    by_item : (frame : Frame) (o : Option Instr) → IsCold r.hot (label_of o) (slice_index_or r.counts frame.function []) → begins r (arrival (sight_at frame o)) ≡ None
    by_item frame None cold = refl
    by_item frame (Some (Label l)) cold =
        let a : Arrival = record { func = frame.function; label = l; point = frame.point } in
        ap (λ b. cond b (Some a) None) (ne_eqb (suc (count_in r.counts frame.function l)) r.hot cold)
    by_item frame (Some (Const d ty v)) cold = refl
    by_item frame (Some (Act d ty o args fns ls)) cold = refl

    by : (f : Option Frame) → IsColdBy P r.hot f r.counts → begins r (arrival (sight_in P f)) ≡ None
    by None cold = refl
    by (Some frame) cold = by_item frame (item_at P frame.function frame.point) cold

module _ (i : InterpView) (r : RecorderView) where
  abbrev counts_behind : ℕ → List (List ℕ)
  counts_behind k = counts_after i.checked.prog (stepped i) (state_of i) r.counts k

  abbrev behind : ℕ → RecorderView
  behind k = record r { counts = counts_behind k }

  sized_behind : (k : ℕ) → map length (counts_behind k) ≡ map length r.counts
  sized_behind zero = refl
  sized_behind (suc k) =
      let s = reached_after i k in
      ap (map length) (counted-same i.checked.prog (reached_after i k) (counts_behind k)) ∙ counted_sized (counts_behind k) (arrival (sight i.checked.prog s)) ∙ sized_behind k

  module _ (few : r.hot < 2 ^ 32) (some : r.counts ≡ [] → ⊥) (ended : (s : Option Sight) → map (seeing s) r.held ≡ r.held) where
    stands_behind : (n : ℕ) → ((k : ℕ) → k < n → IsColdBy i.checked.prog r.hot (newest_frame (reached_after i k)) (counts_behind k)) → (hot most : ℕ) (run : List State)
        → StandsFor r i.checked.prog hot most run → StandsFor (behind n) i.checked.prog hot most (run ++ states_before i n)
    stands_behind zero cold hot most run stands = subst (StandsFor r i.checked.prog hot most) (sym (append-nil run)) stands
    stands_behind (suc n) cold hot most run stands =
        let P = i.checked.prog in
        let s = reached_after i n in
        subst (StandsFor (behind (suc n)) P hot most) (append_assoc run (states_before i n) (s ∷ []))
        (counted_on P (behind n) (behind (suc n)) s (arrival (sight P s)) refl few (λ e. some (no_rows r.counts (sym (sized_behind n) ∙ ap (map length) e))) (cold-begins P s (behind n) (cold n (omega arith))) (ended (sight P s))
        (ap (λ counts. record r { counts = counts }) (counted-same P s (counts_behind n))) hot most (run ++ states_before i n) (stands_behind n (λ k h. cold k (omega arith)) hot most run stands))

    -- after these steps
    pub stands_counted : (n : ℕ) (counts : List (List ℕ)) → Counts i.checked.prog (stepped i) r.hot n (state_of i) r.counts counts → (hot most : ℕ) (run : List State)
        → StandsFor r i.checked.prog hot most run → StandsFor (record r { counts = counts }) i.checked.prog hot most (run ++ states_before i n)
    stands_counted n counts all hot most run stands =
        subst (λ z. StandsFor (record r { counts = z }) i.checked.prog hot most (run ++ states_before i n)) (sym all.counted) (stands_behind n all.cold hot most run stands)

  pub sized_counted : (n : ℕ) (counts : List (List ℕ)) → Counts i.checked.prog (stepped i) r.hot n (state_of i) r.counts counts → map length counts ≡ map length r.counts
  sized_counted n counts all = ap (map length) all.counted ∙ sized_behind n
