-- What a recorder saw of a run, step by step.
use Rattle.std.proofs.Common.{◌≡◌, ◌⊎◌, ℕ, zero, suc, ◌+◌, ◌-◌, ◌<◌, ◌≤◌, false, true≢false, List, [], ◌∷◌, ◌++◌, map, min, append-nil, add-zero, add-suc, Option, Some, None, refl, sym, ap, ap₂, ◌∙◌, subst, arith, ⊎_elim}
use Rattle.std.specs.Prelude.{◌^◌}
use Rattle.std.proofs.lemmas.List.{append_assoc, map-append}
use Rattle.bril_checker.specs.Checked.{CheckedView}
use Rattle.bril_interpreter.proofs.Printed.{after-final}
use Rattle.bril_interpreter.proofs.Runs.{Reached-ended, Reached-more, Reached-ran_quickly, after_behind, behind, behind_reached}
use Rattle.bril_interpreter.specs.Interpreter.{InterpView, state_of}
use Rattle.bril_interpreter.specs.StepAnswers.{HadFailed, PrintFailed, Reached, print_at, puts_within, reached_after, stepped}
use Rattle.bril_interpreter.specs.Steps.{RanOn}
use Rattle.bril_interpreter.specs.Line.{puts_of}
use Rattle.bril_outside.specs.Sink.{Counted, SinkSeen, count_seen}
use Rattle.bril_tree.specs.Run.{first_state, state_after}
use Rattle.bril_tree.specs.State.{State}
use Rattle.bril_tree.specs.declared.limits.End.{End}
use Rattle.bril_tree.specs.declared.limits.Limits.{Limits}
use Rattle.bril_tree.specs.declared.program.Prog.{Prog}
use Rattle.bril_tree.specs.declared.value.Value.{Value}
use Rattle.trace_recorder.specs.Recorded.{counts_on, most_count, no_counts}
use Rattle.trace_recorder.specs.Sight.{sight}
use Rattle.trace_recorder.specs.Standing.{RecorderView, StandsFor, held_on, states_before}
use Rattle.simulation.proofs.After.{after-add}
use Rattle.bril_commands.proofs.Interpreting.{reached}
use Rattle.bril_commands.specs.Recording.{Records, before_step, states_within}
use Rattle.bril_commands.specs.commands.Interp.{IsFresh}

-- a recorder stands for every run whose states show the same
StandsFor-alike : (r : RecorderView) (p : Prog) (hot most : ℕ) (run other : List State) → map (sight p) run ≡ map (sight p) other → StandsFor r p hot most run → StandsFor r p hot most other
StandsFor-alike r p hot most run other same stands = record {
  hot_is = stands.hot_is;
  most_is = stands.most_is;
  held = stands.held ∙ ap (held_on p hot no_counts) same;
  sized = stands.sized;
  counts = λ function label. stands.counts function label ∙ ap (λ seen. min (counts_on no_counts seen function label) most_count) same;
}

-- So many steps were made, none of which ended the run, and the recorder saw the state before each of them.
pub record HasRecorded (i : InterpView) (p : Prog) (limits : Limits) (values : List Value) (hot most n : ℕ) (mid : InterpView) (r : RecorderView) (s t : SinkSeen) : Type 0 where
  pub made : Reached (reached_after i n) (puts_within i n) i mid s t
  pub runs : (state_after p limits values n).ended ≡ None
  pub stands : StandsFor r p hot most (states_within p limits values n)

module _ (p : Prog) (limits : Limits) (values : List Value) where
  ended_later : (m k : ℕ) (how : End) → (state_after p limits values m).ended ≡ Some how → (state_after p limits values (m + k)).ended ≡ Some how
  ended_later m k how e = ap (λ (t : State). t.ended) (after-final p limits m (m + k) (first_state p limits values) how (omega arith) e) ∙ e

  -- a step is made from a state that hasn't ended alone
  states_more : (m k : ℕ) (how : End) → (state_after p limits values m).ended ≡ Some how → states_within p limits values (m + k) ≡ states_within p limits values m
  states_more m zero how e = ap (states_within p limits values) (add-zero m)
  states_more m (suc k) how e =
      ap (states_within p limits values) (add-suc m k)
      ∙ ap (λ o. states_within p limits values (m + k) ++ before_step o (state_after p limits values (m + k))) (ended_later m k how e)
      ∙ append-nil (states_within p limits values (m + k))
      ∙ states_more m k how e

  -- so a run that goes on after a step went on before it
  pub runs_before : (m : ℕ) → (state_after p limits values (suc m)).ended ≡ None → (state_after p limits values m).ended ≡ None
  runs_before m runs = by (state_after p limits values m).ended refl
    where
      by : (o : Option End) → (state_after p limits values m).ended ≡ o → (state_after p limits values m).ended ≡ None
      by None e = e
      by (Some how) e = absurd (let both : Some how ≡ None = sym (ended_later m 1 how e) ∙ ap (λ n. (state_after p limits values n).ended) (let one : m + 1 ≡ suc m = omega arith in one) ∙ runs in cc)

  states_final : (m n : ℕ) (how : End) → m ≤ n → (state_after p limits values m).ended ≡ Some how → states_within p limits values n ≡ states_within p limits values m
  states_final m n how h e = ap (states_within p limits values) (let all : n ≡ m + (n - m) = omega arith in all) ∙ states_more m (n - m) how e

module _ (i : InterpView) (p : Prog) (limits : Limits) (values : List Value) (fresh : IsFresh i p limits values) (hot most n : ℕ) (mid : InterpView) (r : RecorderView) (s t : SinkSeen) (has : HasRecorded i p limits values hot most n mid r s t) where
  reached_at : (k : ℕ) → reached_after i k ≡ state_after p limits values k
  reached_at k = reached i p limits values fresh n k

  -- the state that the recorder sees shows what the program's state does
  shows_same : sight p (state_of mid) ≡ sight p (state_after p limits values n)
  shows_same = ap (sight p) has.made.became.state ∙ ap (sight p) (reached_at n)

  seen_same : map (sight p) (states_within p limits values n ++ state_of mid ∷ []) ≡ map (sight p) (states_within p limits values (suc n))
  seen_same =
      map-append (sight p) (states_within p limits values n) (state_of mid ∷ [])
      ∙ ap (λ seen. map (sight p) (states_within p limits values n) ++ seen ∷ []) shows_same
      ∙ sym (map-append (sight p) (states_within p limits values n) (state_after p limits values n ∷ []))
      ∙ ap (λ o. map (sight p) (states_within p limits values n ++ before_step o (state_after p limits values n))) (sym has.runs)

  -- the recorder saw one state more
  pub saw : (new : RecorderView) → ((hot most : ℕ) (run : List State) → StandsFor r mid.checked.prog hot most run → StandsFor new mid.checked.prog hot most (run ++ state_of mid ∷ [])) → StandsFor new p hot most (states_within p limits values (suc n))
  saw new sees =
      let same : mid.checked.prog ≡ p = ap (λ (k : CheckedView). k.prog) has.made.became.checked ∙ fresh.of_program in
      let seen : StandsFor new p hot most (states_within p limits values n ++ state_of mid ∷ []) =
      subst (λ q. StandsFor new q hot most (states_within p limits values n ++ state_of mid ∷ [])) same
      (sees hot most (states_within p limits values n) (subst (λ q. StandsFor r q hot most (states_within p limits values n)) (sym same) has.stands)) in
      StandsFor-alike new p hot most (states_within p limits values n ++ state_of mid ∷ []) (states_within p limits values (suc n)) seen_same seen

  module _ (saw_next : RecorderView) (stands : StandsFor saw_next p hot most (states_within p limits values (suc n))) (new : InterpView) (u : SinkSeen) where
    next_ended : (o : Option End) → (behind mid).ended ≡ o → (state_after p limits values (suc n)).ended ≡ o
    next_ended o e = ap (λ (t : State). t.ended) (sym (reached_at (suc n))) ∙ ap (λ (t : State). t.ended) (behind_reached n i mid s t has.made) ∙ e

    -- the run goes on
    pub recorded_more : (behind mid).ended ≡ None → Reached (behind mid) (puts_of (print_at mid (state_of mid))) mid new t u → HasRecorded i p limits values hot most (suc n) new saw_next s u
    recorded_more e two = record { made = Reached-more n i mid new s t u has.made two; runs = next_ended None e; stands = stands }

    -- the run has ended
    pub recorded_end : (steps : ℕ) (how : End) → n < steps → (behind mid).ended ≡ Some how → Reached (behind mid) (puts_of (print_at mid (state_of mid))) mid new t u → Records p limits values hot most steps saw_next (Some how)
    recorded_end steps how within e two =
        let ended = next_ended (Some how) e in
        let all = states_final p limits values (suc n) steps how (omega arith) ended in
        record {
          stands = subst (λ run. StandsFor saw_next p hot most run) (sym all) stands;
          ends = ap (λ (t : State). t.ended) (sym (reached_at steps)) ∙ (Reached-ended n steps i mid new s t u how within has.made e two).0;
        }

-- ---- steps that the interpreter and the recorder make together

module _ (i : InterpView) (p : Prog) (limits : Limits) (values : List Value) (fresh : IsFresh i p limits values) (hot most n : ℕ) (mid : InterpView) (r : RecorderView) (s t : SinkSeen) (has : HasRecorded i p limits values hot most n mid r s t) where
  -- a state behind them shows what the program's state does
  shows_later : (j : ℕ) → sight p (reached_after mid j) ≡ sight p (state_after p limits values (n + j))
  shows_later j = sym (ap (sight p) (after-add (stepped i) n j (state_of i) ∙ after_behind n j i mid s t has.made)) ∙ ap (sight p) (reached i p limits values fresh (n + j) (n + j))

  shown_later : (j : ℕ) → (state_after p limits values (n + j)).ended ≡ None → map (sight p) (states_within p limits values n ++ states_before mid j) ≡ map (sight p) (states_within p limits values (n + j))
  shown_later zero runs = ap (map (sight p)) (append-nil (states_within p limits values n)) ∙ ap (λ m. map (sight p) (states_within p limits values m)) (sym (add-zero n))
  shown_later (suc j) runs =
      let before : (state_after p limits values (n + j)).ended ≡ None = runs_before p limits values (n + j) (ap (λ m. (state_after p limits values m).ended) (sym (add-suc n j)) ∙ runs) in
      let x = reached_after mid j in
      let y = state_after p limits values (n + j) in
      ap (map (sight p)) (sym (append_assoc (states_within p limits values n) (states_before mid j) (x ∷ [])))
      ∙ map-append (sight p) (states_within p limits values n ++ states_before mid j) (x ∷ [])
      ∙ ap₂ (λ seen one. seen ++ one ∷ []) (shown_later j before) (shows_later j)
      ∙ sym (map-append (sight p) (states_within p limits values (n + j)) (y ∷ []))
      ∙ ap (λ o. map (sight p) (states_within p limits values (n + j) ++ before_step o (state_after p limits values (n + j)))) (sym before)
      ∙ ap (λ m. map (sight p) (states_within p limits values m)) (sym (add-suc n j))

  -- the recorder stands for the states before them too
  pub recorded_on : (k : ℕ) (new : InterpView) (saw_all : RecorderView) → RanOn k mid new
      → ((hot most : ℕ) (run : List State) → StandsFor r mid.checked.prog hot most run → StandsFor saw_all mid.checked.prog hot most (run ++ states_before mid k))
      → HasRecorded i p limits values hot most (n + k) new saw_all s t
  recorded_on k new saw_all on sees =
      let made : Reached (reached_after i (n + k)) (puts_within i (n + k)) i new s t = Reached-ran_quickly n k i mid new s t has.made on.ran in
      let same : mid.checked.prog ≡ p = ap (λ (c : CheckedView). c.prog) has.made.became.checked ∙ fresh.of_program in
      let goes : (state_after p limits values (n + k)).ended ≡ None = runs_later k new made on in
      record {
        made = made;
        runs = goes;
        stands = StandsFor-alike saw_all p hot most (states_within p limits values n ++ states_before mid k) (states_within p limits values (n + k)) (shown_later k goes)
            (subst (λ q. StandsFor saw_all q hot most (states_within p limits values n ++ states_before mid k)) same
            (sees hot most (states_within p limits values n) (subst (λ q. StandsFor r q hot most (states_within p limits values n)) (sym same) has.stands)));
      }
    where
      runs_later : (k : ℕ) (new : InterpView) → Reached (reached_after i (n + k)) (puts_within i (n + k)) i new s t → RanOn k mid new → (state_after p limits values (n + k)).ended ≡ None
      runs_later zero new made on = ap (λ m. (state_after p limits values m).ended) (add-zero n) ∙ has.runs
      runs_later (suc k) new made on =
          ap (λ (u : State). u.ended) (sym (reached i p limits values fresh (n + suc k) (n + suc k))) ∙ sym (ap (λ (u : State). u.ended) made.became.state) ∙ on.goes_on (omega arith)

-- a sink that counts takes every piece
pub never_fails : (before after : Counted) (a b : State) (puts : ℕ) (print : _) (mid new : InterpView) → mid.has_failed ≡ false
    → HadFailed mid new (count_seen before) (count_seen after) ⊎ PrintFailed a b puts print mid new (count_seen before) (count_seen after) → ⊥
never_fails before after a b puts print mid new sound answered =
    ⊎_elim (λ failed. true≢false (sym failed.failed_before ∙ sound)) (λ failed. let rose : min (0 + 1) (2 ^ 64 - 1) ≤ 0 = failed.put.rose in absurd (omega arith)) answered
