-- What is counted step by step.
use Rattle.std.proofs.Common.{◌≡◌, ℕ, zero, suc, ◌+◌, ◌-◌, ◌<◌, ◌≤◌, Option, Some, None, refl, sym, ap, ◌∙◌, arith, add-zero, add-suc}
use Rattle.bril_checker.specs.Checked.{CheckedView}
use Rattle.bril_interpreter.proofs.Printed.{after-final}
use Rattle.bril_interpreter.proofs.Runs.{behind, behind_reached}
use Rattle.bril_interpreter.specs.Interpreter.{InterpView, running_frame, state_of}
use Rattle.bril_interpreter.specs.StepAnswers.{Reached, puts_within, reached_after}
use Rattle.bril_outside.specs.Sink.{SinkSeen}
use Rattle.bril_tree.specs.State.{State}
use Rattle.bril_tree.specs.declared.limits.End.{End}
use Rattle.bril_tree.specs.declared.program.Prog.{Prog}
use Rattle.step_count.specs.Executed.{counts_at, executed_within, frame_count}

-- a run that ended carries out nothing
ended_counts : (p : Prog) (s : State) (how : End) → s.ended ≡ Some how → counts_at p s ≡ 0
ended_counts p s how e = ap (λ (o : Option End). frame_count p (running_frame o s.frames)) e

-- the run goes on with the steps after one that ended it
executed_more : (i : InterpView) (n k : ℕ) (how : End) → (reached_after i n).ended ≡ Some how → executed_within i (n + k) ≡ executed_within i n
executed_more i n zero how e = ap (executed_within i) (add-zero n)
executed_more i n (suc k) how e =
    let later : (reached_after i (n + k)).ended ≡ Some how =
    ap (λ (t : State). t.ended) (after-final i.checked.prog i.limits n (n + k) (state_of i) how (omega arith) e) ∙ e in
    let none = ended_counts i.checked.prog (reached_after i (n + k)) how later in
    let rest = executed_more i n k how e in
    ap (executed_within i) (add-suc n k) ∙ ap (λ (m : ℕ). executed_within i (n + k) + m) none ∙ add-zero (executed_within i (n + k)) ∙ rest

module _ (n : ℕ) (i mid : InterpView) (s t : SinkSeen) (made : Reached (reached_after i n) (puts_within i n) i mid s t) where
  -- the interpreter stands where the state does
  pub counts_same : counts_at mid.checked.prog (state_of mid) ≡ counts_at i.checked.prog (reached_after i n)
  counts_same =
      ap (counts_at mid.checked.prog) made.became.state
      ∙ ap (λ (c : CheckedView). counts_at c.prog (reached_after i n)) made.became.checked

  pub next_ended : (o : Option End) → (behind mid).ended ≡ o → (reached_after i (suc n)).ended ≡ o
  next_ended o e = ap (λ (u : State). u.ended) (behind_reached n i mid s t made) ∙ e

  -- one step more
  pub counted_more : (executed count : ℕ) → executed ≡ executed_within i n → count ≡ counts_at mid.checked.prog (state_of mid) → executed + count ≡ executed_within i (suc n)
  counted_more executed count e is = ap (λ (m : ℕ). m + count) e ∙ ap (λ (m : ℕ). executed_within i n + m) (is ∙ counts_same)

  -- the last step
  pub counted_last : (steps executed : ℕ) (how : End) → n < steps → (behind mid).ended ≡ Some how → executed ≡ executed_within i (suc n) → executed ≡ executed_within i steps
  counted_last steps executed how within e is =
      let all : steps ≡ suc n + (steps - suc n) = omega arith in
      is ∙ sym (executed_more i (suc n) (steps - suc n) how (next_ended (Some how) e)) ∙ ap (executed_within i) (sym all)
