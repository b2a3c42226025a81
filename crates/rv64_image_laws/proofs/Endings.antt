-- Where the machine that runs an image of a program stops, and where it runs on.
use Rattle.std.proofs.Common.{◌≡◌, ◌⊎◌, ℕ, zero, suc, inl, inr, ⊎_elim, ◌+◌, ◌*◌, ◌≤◌, List, Option, Some, None, refl, sym, ap, ◌∙◌, subst, arith}
use Rattle.std.specs.Option.{option_map}
use Rattle.simulation.specs.System.{IsFinal, IsPrefix}
use Rattle.simulation.proofs.After.{after-final_le}
use Rattle.bril_tree.specs.declared.limits.End.{End}
use Rattle.bril_tree.specs.declared.limits.Limits.{Limits}
use Rattle.bril_tree.specs.declared.program.Prog.{Prog}
use Rattle.bril_tree.specs.declared.value.Value.{Value}
use Rattle.program_numbers.specs.Cost.{IsCost}
use Rattle.bril_tree.specs.Operand.{Location}
use Rattle.bril_tree.specs.Run.{state_after}
use Rattle.program_numbers.proofs.Measures.{IsCost-one}
use Rattle.rv64_words.specs.declared.image.Image.{Image}
use Rattle.rv64_words.specs.State.{State, Stop, Finished, start}
use Rattle.bril_tree.specs.declared.home.Home.{Home}
use Rattle.rv64_image_laws.specs.Implements.{ImplementsRun, CountsFailures, image_system, image_after}
use Rattle.rv64_image_laws.specs.Shown.{ProgramRunsOn, ProgramShows}
use Rattle.rv64_image_laws.proofs.Systems.{image_is_system}

-- an end of the machine that is one of a program's
finished_of : (o : Option End) (how : Stop) → option_map Finished o ≡ Some how → (e : End) × (o ≡ Some e)
finished_of None how is = cc
finished_of (Some e) how is = (e, refl)

either_way : (m n : ℕ) → (m ≤ n) ⊎ (n ≤ m)
either_way zero n = inl (omega arith)
either_way (suc m) zero = inr (omega arith)
either_way (suc m) (suc n) = ⊎_elim (λ h. inl (omega arith)) (λ h. inr (omega arith)) (either_way m n)

module _ (homes : ℕ → Location → Home) (image : Image) (p : Prog) (limits : Limits) (args : List Value) (run : ImplementsRun homes image p limits args) where
  -- the machine has stopped by then, where the program has
  module _ (n cost words : ℕ) (end : End) (is_cost : IsCost p cost) (enough : cost * (n + 1) ≤ words) (ended : (state_after p limits args n).ended ≡ Some end) where
    in_time : run.count n ≤ words
    in_time =
        let bounded : run.count n ≤ cost * (n + 1) = subst (λ c. run.count n ≤ c * (n + 1)) (IsCost-one p run.cost cost run.is_cost is_cost) (run.bounded n) in
        omega arith

    stopped_then : (image_after image limits args (run.count n)).stopped ≡ Some (Finished end)
    stopped_then = sym ((run.agrees n).0) ∙ ap (option_map Finished) ended

    same_state : image_after image limits args words ≡ image_after image limits args (run.count n)
    same_state =
        after-final_le (image_system image limits) (image_is_system image limits) (run.count n) words (start args) in_time
        (subst (λ (o : Option Stop). IsFinal o) (sym stopped_then) refl)

    pub stopped_in_time : (image_after image limits args words).stopped ≡ Some (Finished end)
    stopped_in_time = ap (λ (t : State). t.stopped) same_state ∙ stopped_then

    pub printed_in_time : (image_after image limits args words).printed ≡ (state_after p limits args n).printed
    printed_in_time = ap (λ (t : State). t.printed) same_state ∙ sym ((run.agrees n).1)

  module _ (words : ℕ) where
    -- where the machine runs on, the program has not ended after any number of steps that the words are enough for
    running : (image_after image limits args words).stopped ≡ None → (n cost : ℕ) → IsCost p cost → cost * (n + 1) ≤ words →
        (o : Option End) → (state_after p limits args n).ended ≡ o → (state_after p limits args n).ended ≡ None
    running goes n cost is_cost enough None is = is
    running goes n cost is_cost enough (Some end) is =
        let stopped : None ≡ Some (Finished end) = sym goes ∙ stopped_in_time n cost words end is_cost enough is in cc

    runs_on : (image_after image limits args words).stopped ≡ None → ProgramRunsOn p limits args words (image_after image limits args words).printed
    runs_on goes =
        let printed : (n : ℕ) × IsPrefix (image_after image limits args words).printed (state_after p limits args n).printed = run.prints_only words in
        record {
          runs = λ n cost is_cost enough. running goes n cost is_cost enough (state_after p limits args n).ended refl;
          steps = printed.0;
          begins = printed.1;
        }

    abbrev Shown : Option Stop → Type 0
    Shown stopped = (ended : Option End) × (stopped ≡ option_map Finished ended) × ProgramShows p limits args words ended (image_after image limits args words).printed

    shown_at : (o : Option Stop) → (image_after image limits args words).stopped ≡ o → Shown o
    shown_at None goes = (None, refl, runs_on goes)
    shown_at (Some how) stops =
        let end = run.ends_only words (subst (λ (o : Option Stop). IsFinal o) (sym stops) refl) in
        let found : (e : End) × ((state_after p limits args end.0).ended ≡ Some e) = finished_of (state_after p limits args end.0).ended how (end.1.0 ∙ stops) in
        (Some found.0, sym stops ∙ (sym end.1.0 ∙ ap (option_map Finished) found.1), record { steps = end.0; ended = found.1; prints = end.1.1 })

    -- the machine has not trapped, and what it shows holds of the program
    pub shown : Shown (image_after image limits args words).stopped
    shown = shown_at (image_after image limits args words).stopped refl

  -- ---- the counts of guards

  module _ (n words : ℕ) (end : End) (how : Stop) (ended : (state_after p limits args n).ended ≡ Some end) (stopped : (image_after image limits args words).stopped ≡ Some how) where
    final_at : IsFinal (image_after image limits args (run.count n)).stopped
    final_at = subst (λ (o : Option Stop). IsFinal o) (sym (sym ((run.agrees n).0) ∙ ap (option_map Finished) ended)) refl

    final_then : IsFinal (image_after image limits args words).stopped
    final_then = subst (λ (o : Option Stop). IsFinal o) (sym stopped) refl

    -- a machine that stopped by two counts of words is in one state
    same_stop : image_after image limits args (run.count n) ≡ image_after image limits args words
    same_stop =
        ⊎_elim (λ (h : run.count n ≤ words). sym (after-final_le (image_system image limits) (image_is_system image limits) (run.count n) words (start args) h final_at))
        (λ (h : words ≤ run.count n). after-final_le (image_system image limits) (image_is_system image limits) words (run.count n) (start args) h final_then)
        (either_way (run.count n) words)

    pub failures_counted : CountsFailures image.guards (state_after p limits args n) (image_after image limits args words)
    failures_counted = subst (λ (t : State). CountsFailures image.guards (state_after p limits args n) t) same_stop (run.fails n)
