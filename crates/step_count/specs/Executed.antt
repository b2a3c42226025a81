-- How many instructions steps carry out.
use Rattle.std.specs.Prelude.{ℕ, zero, suc, ◌≡◌, ◌+◌, ◌≤◌, Option, Some, None}
use Rattle.bril_interpreter.specs.Interpreter.{InterpView, newest_frame}
use Rattle.bril_interpreter.specs.StepAnswers.{reached_after}
use Rattle.bril_interpreter.specs.declared.answer.StepAnswer.{StepAnswer}
use Rattle.bril_interpreter.specs.declared.answer.StepAnswer.TheVariants.{Go, End, WriteFault, Memory}
use Rattle.bril_tree.specs.State.{Frame, State}
use Rattle.bril_tree.specs.Step.{item_at}
use Rattle.bril_tree.specs.declared.numbered.Instr.{Instr}
use Rattle.bril_tree.specs.declared.numbered.Instr.TheVariants.{Label, Const, Act}
use Rattle.bril_tree.specs.declared.program.Prog.{Prog}
use Rattle.step_count.specs.declared.counted.CountedRun.{CountedRun}

-- 1 for an instruction, which is an item that is no label
abbrev pub item_count : Option Instr → ℕ
item_count None = 0
item_count (Some (Label l)) = 0
item_count (Some (Const dest ty value)) = 1
item_count (Some (Act dest ty operation args funcs labels)) = 1

abbrev pub frame_count : Prog → Option Frame → ℕ
frame_count p None = 0
frame_count p (Some f) = item_count (item_at p f.function f.point)

-- how many instructions the step from a state carries out
abbrev pub counts_at : Prog → State → ℕ
counts_at p s = frame_count p (newest_frame s)

-- and how many the first steps of an interpreter
abbrev pub executed_within : InterpView → ℕ → ℕ
executed_within i zero = 0
executed_within i (suc n) = executed_within i n + counts_at i.checked.prog (reached_after i n)

-- those of the first of so many steps
pub record CountsSome (i : InterpView) (steps executed : ℕ) : Type 0 where
  pub made : ℕ
  pub within : made ≤ steps
  pub counted : executed ≡ executed_within i made

abbrev pub Counts : StepAnswer → InterpView → ℕ → ℕ → Type 0
Counts Go i steps executed = executed ≡ executed_within i steps
Counts (End how) i steps executed = executed ≡ executed_within i steps
Counts WriteFault i steps executed = CountsSome i steps executed
Counts Memory i steps executed = CountsSome i steps executed

-- So many instructions were carried out: by all steps, or by those before one that wasn't made.
abbrev pub IsCounted : InterpView → ℕ → CountedRun → Type 0
IsCounted i steps run = Counts run.answer i steps run.executed
