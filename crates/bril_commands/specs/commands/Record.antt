-- `record`: an accepted program is interpreted with the arguments that the words spell, and the profile of the run is written.
use Rattle.std.specs.Prelude.{ℕ, ◌≡◌, List, [], ◌∷◌, Option}
use Rattle.bril_tree.specs.Run.{state_after}
use Rattle.bril_tree.specs.declared.limits.End.{End}
use Rattle.bril_tree.specs.declared.limits.Limits.{Limits}
use Rattle.bril_tree.specs.declared.program.Prog.{Prog}
use Rattle.bril_tree.specs.declared.value.Value.{Value}
use Rattle.profile_text.specs.Form.{profile_text}
use Rattle.profile_text.specs.declared.version.Version.TheVariants.{Second}
use Rattle.trace_recorder.specs.Recorded.{recorded}
use Rattle.bril_commands.specs.Command.{OfSource, OfMain}
use Rattle.bril_commands.specs.Outcome.{Outcome, untrapped}
use Rattle.bril_commands.specs.Recording.{states_within}

-- By its semantics the program, with these values, has ended so within the steps, or goes on for None, and this is the text, in
-- version 2, of the profile of its run so far.
pub record ShowsProfile (p : Prog) (values : List Value) (frames cells steps hot most : ℕ) (ended : Option End) (output : List (List ℕ)) : Type 0 where
  pub limits : Limits
  pub frames_are : limits.frames ≡ frames
  pub cells_are : limits.cells ≡ cells
  pub ends : (state_after p limits values steps).ended ≡ ended
  pub text : output ≡ profile_text Second (recorded p hot most (states_within p limits values steps)) ∷ []

-- ---- the command

-- What a run of so many steps, by its semantics, is recorded as.
abbrev pub recorded_run : Prog → List Value → (frames cells steps hot most : ℕ) → Outcome
recorded_run p values frames cells steps hot most = record {
  steps = steps;
  Shows = λ ended told output. (told ≡ []) × ShowsProfile p values frames cells steps hot most ended output;
  Traps = untrapped;
  Exhausts = λ output. ⊥;
  unwritten = [];
}

-- The program is interpreted for so many steps, under limits of so many frames and cells, and the profile of the run is written: a label
-- that was arrived at `hot` times has an entry, and there are `most` entries at most.
abbrev pub records : (frames cells steps hot most : ℕ) → OfSource
records frames cells steps hot most = record { arguments = OfMain; outcome = λ p values. recorded_run p values frames cells steps hot most }
