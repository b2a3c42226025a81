-- What all paths do at a state.
use Rattle.std.specs.Prelude.{ℕ, ◌==◌, ◌&&◌, Bool, true, false, List, [], ◌∷◌, Option, Some, None}
use Rattle.trace_paths.specs.Path.{Meeting, item_met}
use Rattle.trace_paths.specs.Path as path
use Rattle.trace_recorder.specs.declared.passing.Passing.{Passing}
use Rattle.trace_recorder.specs.declared.passing.Passing.TheVariants.{Stops, Over, Lays, Turns}
use Rattle.trace_recorder.specs.Sight.{Sight}
use Rattle.trace_recorder.specs.Recorded.{Own}

abbrev pub passing_at : Meeting → Bool → Passing
passing_at path.Over choice = Over
passing_at (path.To l) choice = Over
passing_at path.Lays choice = Lays
passing_at (path.Turns on off) choice = Turns choice
passing_at path.Stops choice = Stops

-- no path goes on where the run has ended, or over a function's end
abbrev pub passing_of : Option Sight → Passing
passing_of None = Stops
passing_of (Some s) = passing_at (item_met (Some s.item)) s.choice

abbrev pub stops_at : Passing → Bool
stops_at Stops = true
stops_at Over = false
stops_at Lays = false
stops_at (Turns choice) = false

abbrev pub lays_at : Passing → Bool
lays_at Stops = false
lays_at Over = false
lays_at Lays = true
lays_at (Turns choice) = true

-- how many items are laid
abbrev pub laid_at : Passing → ℕ
laid_at Stops = 0
laid_at Over = 0
laid_at Lays = 1
laid_at (Turns choice) = 1

-- the choice that is taken
abbrev pub chosen_at : Passing → List Bool
chosen_at Stops = []
chosen_at Over = []
chosen_at Lays = []
chosen_at (Turns choice) = choice ∷ []

abbrev pub takes_choice : Passing → Bool
takes_choice Stops = false
takes_choice Over = false
takes_choice Lays = false
takes_choice (Turns choice) = true

-- the state is at the label of an entry
abbrev pub is_own : Own → Option Sight → Bool
is_own own None = false
is_own own (Some s) = (s.function == own.function) && (s.point == own.point)
