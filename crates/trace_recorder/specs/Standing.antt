-- What a recorder holds, and when it stands for a run.
use Rattle.std.specs.Prelude.{◌≡◌, ◌⊎◌, ℕ, ◌==◌, ◌&&◌, nat_lt, zero, suc, if◌then◌else◌, Bool, true, List, [], ◌∷◌, ◌++◌, length, map, max, min, take, Option, Some, None, IsSome, slice_index, slice_index_or}
use Rattle.std.specs.List.{list_any}
use Rattle.bril_interpreter.specs.Interpreter.{InterpView}
use Rattle.bril_interpreter.specs.StepAnswers.{reached_after}
use Rattle.bril_profile.specs.declared.profile.Entry.{Entry}
use Rattle.bril_tree.specs.declared.numbered_function.Func.{Func}
use Rattle.bril_tree.specs.declared.program.Prog.{Prog}
use Rattle.bril_tree.specs.State.{State}
use Rattle.trace_paths.specs.Fits.{count_of}
use Rattle.trace_paths.specs.Taken.{taken}
use Rattle.trace_recorder.specs.declared.arrival.Arrival.{Arrival}
use Rattle.trace_recorder.specs.Passings.{passing_of, takes_choice}
use Rattle.trace_recorder.specs.Sight.{Sight, sight, arrival}
use Rattle.trace_recorder.specs.Recorded.{Own, Move, Ends, Goes, Chooses, move, choices_on, counted, no_counts, counts_on, most_count, is_hot, func_name, label_name, own_of}

-- An entry that was begun: the names of its function and label, where the label stands, its choices so far, and how many
-- items may still be met, 0 where the path has ended, and laid.
pub record Held : Type 0 where
  pub func : List ℕ
  pub label : List ℕ
  pub place : Arrival
  pub choices : List Bool
  pub fuel : ℕ
  pub room : ℕ

-- ---- what a run goes through

-- the states before the first n steps that an interpreter makes
abbrev pub states_before : InterpView → ℕ → List State
states_before i zero = []
states_before i (suc n) = states_before i n ++ reached_after i n ∷ []

-- ---- what is held of a run

-- what a move leaves of the items that may be met, and laid
abbrev pub rest_of : Move → ℕ × ℕ
rest_of Ends = (0, 0)
rest_of (Goes fuel room) = (fuel, room)
rest_of (Chooses choice fuel room) = (fuel, room)

abbrev pub left_on : (ℕ → ℕ → ℕ × ℕ) → Move → ℕ × ℕ
left_on next Ends = (0, 0)
left_on next (Goes fuel room) = next fuel room
left_on next (Chooses choice fuel room) = next fuel room

abbrev pub left_after : Own → (fuel room : ℕ) → List (Option Sight) → ℕ × ℕ
left_after own fuel room [] = (fuel, room)
left_after own fuel room (s ∷ run) = left_on (λ fuel room. left_after own fuel room run) (move own fuel room s)

abbrev pub held_at : Prog → Option Arrival → List (Option Sight) → List Held
held_at P None run = []
held_at P (Some a) run = record {
  func = func_name P a;
  label = label_name P a;
  place = a;
  choices = choices_on (own_of a) 1023 256 run;
  fuel = (left_after (own_of a) 1023 256 run).0;
  room = (left_after (own_of a) 1023 256 run).1;
} ∷ []

abbrev pub held_on : Prog → ℕ → (ℕ → ℕ → ℕ) → List (Option Sight) → List Held
held_on P hot counts [] = []
held_on P hot counts (s ∷ run) = held_at P (is_hot hot counts (arrival s)) run ++ held_on P hot (counted (arrival s) counts) run

-- ---- what one state does to an entry

-- the choice that a move adds
abbrev pub added : Move → List Bool
added Ends = []
added (Goes fuel room) = []
added (Chooses choice fuel room) = choice ∷ []

abbrev pub moved_by : Move → Held → Held
moved_by m h = record { func = h.func; label = h.label; place = h.place; choices = h.choices ++ added m; fuel = (rest_of m).0; room = (rest_of m).1 }

abbrev pub seeing : Option Sight → Held → Held
seeing s h = moved_by (move (own_of h.place) h.fuel h.room s) h

-- ---- what contracts see of a recorder

-- The number of arrivals that makes a label hot, the greatest number of entries, how often each label of each function was
-- arrived at, empty before the first state, and the entries that were begun.
pub record RecorderView : Type 0 where
  pub hot : ℕ
  pub most : ℕ
  pub counts : List (List ℕ)
  pub held : List Held

abbrev pub count_in : List (List ℕ) → ℕ → ℕ → ℕ
count_in counts function label = slice_index (slice_index_or counts function []) label

-- Each label of each function has a count, once a state was seen.
abbrev pub HasCounts : Prog → List (List ℕ) → Type 0
HasCounts P counts = (counts ≡ []) ⊎ (map length counts ≡ map (λ (f : Func). length f.labels) P.funcs)

-- The recorder stands for a program and the states of a run, under these options: it holds the entries as far as the run
-- went, and how often each label was arrived at, up to 2^32 - 1.
pub record StandsFor (r : RecorderView) (P : Prog) (hot most : ℕ) (run : List State) : Type 0 where
  pub hot_is : r.hot ≡ hot
  pub most_is : r.most ≡ most
  pub held : r.held ≡ held_on P hot no_counts (map (sight P) run)
  pub sized : HasCounts P r.counts
  pub counts : (function label : ℕ) → count_in r.counts function label ≡ min (counts_on no_counts (map (sight P) run) function label) most_count

-- ---- what one state does to a recorder

-- the entry of an arrival, before the states behind it
abbrev pub begun : Prog → Arrival → Held
begun P a = record { func = func_name P a; label = label_name P a; place = a; choices = []; fuel = 1023; room = 256 }

abbrev pub begun_at : Prog → Option Arrival → List Held
begun_at P None = []
begun_at P (Some a) = begun P a ∷ []

-- the arrival begins an entry: it is the hot one
abbrev pub begins : RecorderView → Option Arrival → Option Arrival
begins r None = None
begins r (Some a) = if suc (count_in r.counts a.func a.label) == r.hot then Some a else None

-- the path of some entry may meet one item more and lay it, and the state shows a `br`
abbrev pub may_lay : Held → Bool
may_lay h = nat_lt 0 h.fuel && nat_lt 0 h.room

abbrev pub TakesChoice : RecorderView → Option Sight → Type 0
TakesChoice r s = (takes_choice (passing_of s) ≡ true) × (list_any may_lay r.held ≡ true)

-- seeing the state takes memory: for the counts, where it is the first, for an entry that begins, or for the choice at a `br`,
-- where the path of some entry may lay it
abbrev pub TakesMemory : RecorderView → Prog → State → Type 0
TakesMemory r P s = (r.counts ≡ []) ⊎ (IsSome (begins r (arrival (sight P s))) ⊎ TakesChoice r (sight P s))

-- ---- the profile

-- how often the label of an entry was arrived at; the arrival that began it was one
abbrev pub entry_count : List (List ℕ) → Arrival → ℕ
entry_count counts a = max (count_in counts a.func a.label) 1

abbrev pub entry_of : List (List ℕ) → Held → Entry
entry_of counts h = record { func = h.func; label = h.label; choices = h.choices; count = entry_count counts h.place }

abbrev pub entries_of : RecorderView → List Entry
entries_of r = take r.most (taken count_of (map (entry_of r.counts) r.held))
