-- What is recorded of a run that went on for so many steps.
use Rattle.std.specs.Prelude.{◌≡◌, ℕ, zero, suc, List, [], ◌∷◌, ◌++◌, Option, Some, None}
use Rattle.bril_profile.specs.declared.profile.Entry.{Entry}
use Rattle.bril_tree.specs.Run.{state_after}
use Rattle.bril_tree.specs.State.{State}
use Rattle.bril_tree.specs.declared.limits.End.{End}
use Rattle.bril_tree.specs.declared.limits.Limits.{Limits}
use Rattle.bril_tree.specs.declared.program.Prog.{Prog}
use Rattle.bril_tree.specs.declared.value.Value.{Value}
use Rattle.trace_recorder.specs.Recorded.{recorded}
use Rattle.trace_recorder.specs.Standing.{RecorderView, StandsFor}

-- ---- the run

-- the state before a step that is made: it hasn't ended
abbrev pub before_step : Option End → State → List State
before_step None s = s ∷ []
before_step (Some end) s = []

-- the states of a program's run before each step that is made, so many steps at most, the first first
abbrev pub states_within : Prog → Limits → List Value → (steps : ℕ) → List State
states_within p limits values zero = []
states_within p limits values (suc n) = states_within p limits values n ++ before_step (state_after p limits values n).ended (state_after p limits values n)

-- These are the entries of the profile of the program's run with these values so far, under limits of so many frames and cells and after
-- so many steps, at most: a label that was arrived at `hot` times has an entry, and there are `most` entries at most.
pub record AreRecorded (p : Prog) (values : List Value) (frames cells steps hot most : ℕ) (entries : List Entry) : Type 0 where
  pub limits : Limits
  pub frames_are : limits.frames ≡ frames
  pub cells_are : limits.cells ≡ cells
  pub are : entries ≡ recorded p hot most (states_within p limits values steps)

-- ---- the recorder

-- The recorder stands for the states before each of the program's first steps, so many at most, and the program has ended so, or goes on
-- for None.
pub record Records (p : Prog) (limits : Limits) (values : List Value) (hot most steps : ℕ) (r : RecorderView) (ended : Option End) : Type 0 where
  pub stands : StandsFor r p hot most (states_within p limits values steps)
  pub ends : (state_after p limits values steps).ended ≡ ended
