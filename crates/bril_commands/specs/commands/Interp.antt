-- `interp`: an accepted program is interpreted with the arguments that the words spell.
use Rattle.std.specs.Prelude.{ℕ, zero, suc, ◌≡◌, ◌<◌, false, List, [], ◌++◌, Option}
use Rattle.bril_interpreter.specs.Interpreter.{InterpView, state_of}
use Rattle.bril_interpreter.specs.Line.{next_print, pieces_of}
use Rattle.bril_interpreter.specs.StepAnswers.{WantsMemory}
use Rattle.bril_outside.specs.Sink.{joined}
use Rattle.bril_tree.specs.Run.{first_state, state_after}
use Rattle.bril_tree.specs.declared.limits.End.{End}
use Rattle.bril_tree.specs.declared.limits.Limits.{Limits}
use Rattle.bril_tree.specs.declared.program.Prog.{Prog}
use Rattle.bril_tree.specs.declared.value.Value.{Value}
use Rattle.bril_commands.specs.Command.{OfSource, OfMain}
use Rattle.bril_commands.specs.Outcome.{Outcome, untrapped}

-- ---- the run

-- The interpreter was made for the program, the limits and the values, and has made no step.
pub record IsFresh (i : InterpView) (p : Prog) (limits : Limits) (values : List Value) : Type 0 where
  pub state : state_of i ≡ first_state p limits values
  pub of_program : i.checked.prog ≡ p
  pub under : i.limits ≡ limits
  pub sound : i.has_failed ≡ false

-- what the program's first steps print, in pieces of which each is one put: a value and the space or LF after it, or LF alone
abbrev pub pieces_within : Prog → Limits → List Value → (steps : ℕ) → List (List ℕ)
pieces_within p limits values zero = []
pieces_within p limits values (suc n) = pieces_within p limits values n ++ pieces_of (next_print p (state_after p limits values n))

-- By its semantics the program, with these values, has ended so within the steps, or goes on for None, and has printed this.
pub record Shows (p : Prog) (values : List Value) (frames cells steps : ℕ) (ended : Option End) (output : List (List ℕ)) : Type 0 where
  pub limits : Limits
  pub frames_are : limits.frames ≡ frames
  pub cells_are : limits.cells ≡ cells
  pub ends : (state_after p limits values steps).ended ≡ ended
  pub prints : (state_after p limits values steps).printed ≡ joined output
  pub pieces : output ≡ pieces_within p limits values steps

-- By its semantics the program, with these values, stands after fewer than the steps at an item that takes memory and doesn't end
-- the run, and has printed this.
pub record StopsForMemory (p : Prog) (values : List Value) (frames cells steps : ℕ) (output : List (List ℕ)) : Type 0 where
  pub limits : Limits
  pub frames_are : limits.frames ≡ frames
  pub cells_are : limits.cells ≡ cells
  pub made : ℕ
  pub within : made < steps
  pub wants : WantsMemory p limits (state_after p limits values made)
  pub prints : (state_after p limits values made).printed ≡ joined output
  pub pieces : output ≡ pieces_within p limits values made

-- ---- the command

-- What the program prints within so many steps, by its semantics.
abbrev pub interpreted : Prog → List Value → (frames cells steps : ℕ) → Outcome
interpreted p values frames cells steps = record {
  steps = steps;
  Shows = λ ended told output. (told ≡ []) × Shows p values frames cells steps ended output;
  Traps = untrapped;
  Exhausts = λ output. StopsForMemory p values frames cells steps output;
  unwritten = [];
}

-- The program is interpreted for so many steps, under limits of so many frames and cells.
abbrev pub interprets : (frames cells steps : ℕ) → OfSource
interprets frames cells steps = record { arguments = OfMain; outcome = λ p values. interpreted p values frames cells steps }
