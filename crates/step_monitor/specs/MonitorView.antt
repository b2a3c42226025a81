-- What contracts see of a monitor.
use Rattle.std.specs.Prelude.{◌≡◌, ◌⊎◌, ℕ, ◌*◌, ◌/◌, ◌==◌, ◌&&◌, ◌||◌, Bool, true, false, List, [], Option, Some, None, if◌then◌else◌, slice_get}
use Rattle.bril_tree.specs.declared.value.Value.{Value}
use Rattle.rv64_image_laws.specs.Stops.{IsValueOf, ShownBy, entry_of, home_word}
use Rattle.rv64_machine.specs.declared.machine.Machine.{Machine}
use Rattle.rv64_machine.specs.MachineView.{sizes_in, state_of}
use Rattle.rv64_words.specs.declared.points.HomeAt.{HomeAt}
use Rattle.rv64_words.specs.Region.{Sizes}
use Rattle.rv64_words.specs.State.{State}
use Rattle.step_monitor.specs.declared.entry.EntryValue.{EntryValue}
use Rattle.step_monitor.specs.declared.monitor.Monitor.{Monitor}
use Rattle.step_monitor.specs.declared.spots.Spot.{Spot}
use Rattle.step_monitor.specs.declared.stop.Stop.{Stop}
use Rattle.step_monitor.specs.declared.stop.Stop.TheVariants as stop

-- ---- parts

abbrev pub machine_in : Monitor → Machine
machine_in m = m.machine

-- of each word of the image the spot that is there
abbrev pub spots_in : Monitor → List (Option Spot)
spots_in m = m.spots.by_word.items

-- whether the machine has stopped where it stands
abbrev pub is_left : Monitor → Bool
is_left m = m.left

-- the word of the point at which the last call stopped, if it stopped at one
abbrev pub stop_in : Monitor → Option ℕ
stop_in m = m.stop

-- ---- stops

-- The machine runs, and is before the word of a point of this function and item, any or a marked one.
pub record IsSpotAt (spots : List (Option Spot)) (any : Bool) (t : State) (f i : ℕ) : Type 0 where
  pub running : t.stopped ≡ None
  pub word : ℕ
  pub at_word : t.pc ≡ 4 * word
  pub spot : Spot
  pub is : slice_get spots word ≡ Some (Some spot)
  pub counts : (any || spot.marked) ≡ true
  pub func : spot.func ≡ f
  pub item : spot.item ≡ i

-- after how many words the next stop may be: not where the machine has stopped already
abbrev pub from_left : Bool → ℕ
from_left left = if left then 1 else 0

abbrev pub from_in : Monitor → ℕ
from_in m = from_left m.left

-- the point here is the next stop, or none is
abbrev pub IsNext : Monitor → Bool → ℕ → ℕ → Type 0
IsNext m any f i = (m.left ≡ false) × IsSpotAt (spots_in m) any (state_of m.machine) f i

abbrev pub NoneIsNext : Monitor → Bool → Type 0
NoneIsNext m any = (m.left ≡ true) ⊎ ((f i : ℕ) → IsSpotAt (spots_in m) any (state_of m.machine) f i → ⊥)

-- whether the machine has stopped where it stands after so many words
abbrev pub left_at : Bool → ℕ → Bool
left_at left taken = left && (taken == 0)

-- so after a call
abbrev pub LeftSo : Stop → ℕ → Bool → Bool → Type 0
LeftSo (stop.Break f i) words old new = new ≡ true
LeftSo stop.Spent words old new = new ≡ left_at old words
LeftSo _ words old new = Unit {0}

-- a call stopped at the point at the pc, or at none
abbrev pub StopSo : Stop → Monitor → Type 0
StopSo (stop.Break f i) m = stop_in m ≡ Some ((state_of m.machine).pc / 4)
StopSo _ m = stop_in m ≡ None

-- ---- values

-- the first entry of a variable among the homes of a spot
abbrev pub entry_at : Option (Option Spot) → ℕ → Option HomeAt
entry_at None x = None
entry_at (Some None) x = None
entry_at (Some (Some spot)) x = entry_of x spot.homes

-- where there is a stop
abbrev pub entry_in : List (Option Spot) → Option ℕ → ℕ → Option HomeAt
entry_in spots None x = None
entry_in spots (Some word) x = entry_at (slice_get spots word) x

-- What is answered for a variable: nothing where the last call stopped at no point, else what the point's first entry of the variable
-- shows in the machine's state.
abbrev pub IsValueIn : Monitor → ℕ → Option Value → Type 0
IsValueIn m x answer = ShownBy (sizes_in m.machine) (state_of m.machine) (entry_in (spots_in m) (stop_in m) x) answer

-- ---- entries

-- the homes of a spot
abbrev pub homes_at : Option (Option Spot) → List HomeAt
homes_at None = []
homes_at (Some None) = []
homes_at (Some (Some spot)) = spot.homes

-- where there is a stop
abbrev pub homes_in : List (Option Spot) → Option ℕ → List HomeAt
homes_in spots None = []
homes_in spots (Some word) = homes_at (slice_get spots word)

-- the entries of the point of the last stop: none where the last call stopped at no point
abbrev pub entries_in : Monitor → List HomeAt
entries_in m = homes_in (spots_in m) (stop_in m)

-- What is answered for an entry: its variable and the value that the word at its home stands for, nothing exactly where that is none.
abbrev pub IsShownEntry : Sizes → State → Option HomeAt → Option EntryValue → Type 0
IsShownEntry z t None answer = answer ≡ None
IsShownEntry z t (Some h) None = IsValueOf h.ty (home_word z t h.home) None
IsShownEntry z t (Some h) (Some entry) = (entry.var ≡ h.var) × IsValueOf h.ty (home_word z t h.home) (Some entry.value)

-- so for the entry at a place
abbrev pub IsEntryIn : Monitor → ℕ → Option EntryValue → Type 0
IsEntryIn m place answer = IsShownEntry (sizes_in m.machine) (state_of m.machine) (slice_get (entries_in m) place) answer
