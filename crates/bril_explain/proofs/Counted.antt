-- What a counted run of the interpreter says of the program.
use Rattle.std.proofs.Common.{◌≡◌, ℕ, zero, suc, ◌+◌, [], List, Option, Some, None, refl, sym, ap, ap₂, ◌∙◌, subst, false}
use Rattle.bril_commands.proofs.Interpreting.{ended, goes_on, reached}
use Rattle.bril_commands.specs.Outcome.{ShowsPut}
use Rattle.bril_commands.specs.commands.Interp.{IsFresh, interpreted}
use Rattle.bril_interpreter.specs.Interpreter.{InterpView, state_of}
use Rattle.bril_interpreter.specs.StepAnswers.{Ran, reached_after}
use Rattle.bril_interpreter.specs.declared.answer.StepAnswer.TheVariants as run
use Rattle.bril_outside.specs.Sink.{SinkSeen}
use Rattle.bril_tree.specs.Run.{first_state}
use Rattle.bril_tree.specs.State.{State}
use Rattle.bril_tree.specs.declared.limits.End.{End}
use Rattle.bril_tree.specs.declared.limits.Limits.{Limits}
use Rattle.bril_tree.specs.declared.program.Prog.{Prog}
use Rattle.bril_tree.specs.declared.value.Value.{Value}
use Rattle.step_count.specs.Executed.{counts_at, executed_within}
use Rattle.bril_explain.specs.Executed.{CountsRun, executed_by}

pub made_fresh : (i : InterpView) (p : Prog) (limits : Limits) (values : List Value) → state_of i ≡ first_state p limits values → i.checked.prog ≡ p → i.limits ≡ limits → i.has_failed ≡ false
    → IsFresh i p limits values
made_fresh i p limits values state program under sound = record { state = state; of_program = program; under = under; sound = sound }

module _ (i : InterpView) (p : Prog) (limits : Limits) (values : List Value) (fresh : IsFresh i p limits values) where
  executed_same : (n : ℕ) → executed_within i n ≡ executed_by p limits values n
  executed_same zero = refl
  executed_same (suc n) =
      ap₂ (λ (a b : ℕ). a + b) (executed_same n)
      (ap (λ (q : Prog). counts_at q (reached_after i n)) fresh.of_program ∙ ap (counts_at p) (reached i p limits values fresh n n))

  module _ (frames : limits.frames ≡ 8192) (cells : limits.cells ≡ 1048576) (i' : InterpView) (s t : SinkSeen) where
    abbrev steps : ℕ
    steps = 1000000000000

    made : (executed : ℕ) (how : Option End) → executed ≡ executed_within i steps → (reached_after i steps).ended ≡ how
        → ShowsPut (interpreted p values limits.frames limits.cells steps) how [] s t → CountsRun p values s t (record { executed = executed; ended = how })
    made executed how e ends shows = record {
      limits = limits;
      frames = frames;
      cells = cells;
      executed = e ∙ executed_same steps;
      ended = ap (λ (u : State). u.ended) (sym (reached i p limits values fresh steps steps)) ∙ ends;
      prints = subst (λ (f : ℕ). ShowsPut (interpreted p values f 1048576 steps) how [] s t) frames
          (subst (λ (k : ℕ). ShowsPut (interpreted p values limits.frames k steps) how [] s t) cells shows);
    }

    pub counts_on : (executed : ℕ) → executed ≡ executed_within i steps → Ran run.Go steps i i' s t → CountsRun p values s t (record { executed = executed; ended = None })
    counts_on executed e ran = made executed None e ran.0 (goes_on i p limits values fresh steps i' s t ran)

    pub counts_end : (executed : ℕ) (how : End) → executed ≡ executed_within i steps → Ran (run.End how) steps i i' s t → CountsRun p values s t (record { executed = executed; ended = Some how })
    counts_end executed how e ran = made executed (Some how) e ran.0 (ended i p limits values fresh steps i' s t how ran)
