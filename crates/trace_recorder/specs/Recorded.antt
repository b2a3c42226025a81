-- The profile of a run.
use Rattle.std.specs.Prelude.{ℕ, zero, suc, ◌-◌, ◌^◌, ◌&&◌, ◌==◌, Bool, List, [], ◌∷◌, ◌++◌, map, min, take, Option, Some, None, slice_get, if◌then◌else◌}
use Rattle.bril_profile.specs.declared.profile.Entry.{Entry}
use Rattle.bril_tree.specs.declared.numbered_function.Func.{Func}
use Rattle.bril_tree.specs.declared.program.Prog.{Prog}
use Rattle.bril_tree.specs.Numbered.{named, names_of_functions}
use Rattle.bril_tree.specs.State.{State}
use Rattle.trace_paths.specs.Fits.{count_of}
use Rattle.trace_paths.specs.Path.{Meeting, Over, To, Lays, Turns, Stops, item_met}
use Rattle.trace_paths.specs.Taken.{taken}
use Rattle.trace_recorder.specs.declared.arrival.Arrival.{Arrival}
use Rattle.trace_recorder.specs.Sight.{Sight, sight, arrival}

-- ---- the choices of one entry

-- Where the label of an entry stands.
pub record Own : Type 0 where
  pub function : ℕ
  pub point : ℕ

-- what a path does at a state: it ends, goes on, or goes on by a choice; so many items may be met and laid behind it
pub data Move : Type 0 where
  Ends : Move
  Goes : (fuel room : ℕ) → Move
  Chooses : (choice : Bool) (fuel room : ℕ) → Move

-- what the path of an entry does at an item, where so many items may be met behind it, and so many laid
abbrev pub met : Meeting → Bool → (fuel room : ℕ) → Move
met Over choice fuel room = Goes fuel room
met (To l) choice fuel room = Goes fuel room
met Lays choice fuel zero = Ends
met Lays choice fuel (suc room) = Goes fuel room
met (Turns on off) choice fuel zero = Ends
met (Turns on off) choice fuel (suc room) = Chooses choice fuel room
met Stops choice fuel room = Ends

-- it ends at its own label
abbrev pub seen_by : Own → Sight → (fuel room : ℕ) → Move
seen_by own s fuel room = if (s.function == own.function) && (s.point == own.point) then Ends else met (item_met (Some s.item)) s.choice fuel room

-- what the path does at a state, where so many items may still be met, and so many laid
abbrev pub move : Own → (fuel room : ℕ) → Option Sight → Move
move own zero room s = Ends
move own (suc fuel) room None = Ends
move own (suc fuel) room (Some s) = seen_by own s fuel room

abbrev pub chosen_on : (ℕ → ℕ → List Bool) → Move → List Bool
chosen_on next Ends = []
chosen_on next (Goes fuel room) = next fuel room
chosen_on next (Chooses choice fuel room) = choice ∷ next fuel room

-- the choices at the states of a run from a point on, the first first, until the path ends or the run does
abbrev pub choices_on : Own → (fuel room : ℕ) → List (Option Sight) → List Bool
choices_on own fuel room [] = []
choices_on own fuel room (s ∷ run) = chosen_on (λ fuel room. choices_on own fuel room run) (move own fuel room s)

-- ---- counts

-- how often each label of each function was arrived at
abbrev pub counted : Option Arrival → (ℕ → ℕ → ℕ) → ℕ → ℕ → ℕ
counted None counts function label = counts function label
counted (Some a) counts function label = if (a.func == function) && (a.label == label) then suc (counts function label) else counts function label

abbrev pub no_counts : ℕ → ℕ → ℕ
no_counts function label = 0

-- the same behind the states of a run, where so many arrivals were before them
abbrev pub counts_on : (ℕ → ℕ → ℕ) → List (Option Sight) → ℕ → ℕ → ℕ
counts_on counts [] = counts
counts_on counts (s ∷ run) = counts_on (counted (arrival s) counts) run

-- the most that a count tells
abbrev pub most_count : ℕ
most_count = 2 ^ 32 - 1

-- ---- all entries

-- the arrival is the `hot`-th at its label
abbrev pub is_hot : ℕ → (ℕ → ℕ → ℕ) → Option Arrival → Option Arrival
is_hot hot counts None = None
is_hot hot counts (Some a) = if suc (counts a.func a.label) == hot then Some a else None

abbrev pub labels_of : Option Func → List (List ℕ)
labels_of None = []
labels_of (Some f) = f.labels

-- the names of an arrival's function and label
abbrev pub func_name : Prog → Arrival → List ℕ
func_name P a = named (names_of_functions P.funcs) a.func

abbrev pub label_name : Prog → Arrival → List ℕ
label_name P a = named (labels_of (slice_get P.funcs a.func)) a.label

abbrev pub own_of : Arrival → Own
own_of a = record { function = a.func; point = a.point }

-- the entry of an arrival by the states behind it: its label is the first of 1,024 items that may be met, and 256 may be laid;
-- `total` has the arrivals of the whole run
abbrev pub entry_on : Prog → (total : ℕ → ℕ → ℕ) → Option Arrival → List (Option Sight) → List Entry
entry_on P total None run = []
entry_on P total (Some a) run = record {
  func = func_name P a;
  label = label_name P a;
  choices = choices_on (own_of a) 1023 256 run;
  count = min (total a.func a.label) most_count;
} ∷ []

-- the entries of a run, in the order of the hot arrivals, where so many arrivals were before it
abbrev pub entries_on : Prog → ℕ → (total counts : ℕ → ℕ → ℕ) → List (Option Sight) → List Entry
entries_on P hot total counts [] = []
entries_on P hot total counts (s ∷ run) = entry_on P total (is_hot hot counts (arrival s)) run ++ entries_on P hot total (counted (arrival s) counts) run

-- the first `most` entries of what a run shows, by falling count
abbrev pub recorded_of : Prog → (hot most : ℕ) → List (Option Sight) → List Entry
recorded_of P hot most run = take most (taken count_of (entries_on P hot (counts_on no_counts run) no_counts run))

-- the entries of a run with these states, which are those before each step that was made, the first first
abbrev pub recorded : Prog → (hot most : ℕ) → List State → List Entry
recorded P hot most run = recorded_of P hot most (map (sight P) run)
