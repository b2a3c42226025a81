-- Where the calls of a monitor stop, in the program's words.
use Rattle.std.specs.Prelude.{◌≡◌, ℕ, ◌+◌, ◌<◌, ◌/◌, ◌==◌, ◌&&◌, Bool, false, List, Option, Some, None, MatchOption, if◌then◌else◌, slice_get}
use Rattle.bril_outside.specs.Sink.{SinkSeen}
use Rattle.bril_tree.specs.declared.limits.Limits.{Limits}
use Rattle.bril_tree.specs.declared.program.Prog.{Prog}
use Rattle.bril_tree.specs.declared.value.Value.{Value}
use Rattle.bril_tree.specs.Run.{FitMain, state_after}
use Rattle.rv64_image_laws.specs.Implements.{image_after}
use Rattle.rv64_machine.specs.declared.machine.Machine.{Machine}
use Rattle.rv64_machine.specs.MachineView.{state_of}
use Rattle.rv64_words.specs.declared.image.Image.{Image}
use Rattle.rv64_words.specs.declared.points.HomeAt.{HomeAt}
use Rattle.rv64_words.specs.declared.points.PointAt.{PointAt}
use Rattle.rv64_words.specs.declared.points.Points.{Points}
use Rattle.rv64_words.specs.Points.{IsAtPoint}
use Rattle.rv64_words.specs.declared.trap.Trap.{Trap}
use Rattle.rv64_words.specs.Region.{sizes_of}
use Rattle.rv64_words.specs.State.{Stop, Trapped}
use Rattle.rv64_image_laws.specs.PointsShown.{PointShows, Shows, ShowsRun}
use Rattle.rv64_image_laws.specs.Stops.{IsAhead, IsLeastAhead, IsShownValue, entry_of}
use Rattle.step_monitor.specs.declared.entry.EntryValue.{EntryValue}
use Rattle.step_monitor.specs.declared.monitor.Monitor.{Monitor}
use Rattle.step_monitor.specs.declared.spots.Spot.{Spot}
use Rattle.step_monitor.specs.MonitorView.{IsEntryIn, IsSpotAt, IsValueIn, entries_in, from_in, machine_in, spots_in, stop_in}
use Rattle.step_monitor.specs.Spots.{AreChosen, with_marks}
use Rattle.step_monitor.specs.Stands.{StandsAfter}
use Rattle.step_monitor.specs.Went.{Breaks, Fails, Passes, Spends}

-- Over an image and points that show a program, a call that stops at a point stops where the program is at the least step ahead
-- whose item is chosen, and the point shows that state. So many words of the image were executed before the call.
abbrev pub StopsAreLeast : Type 0
StopsAreLeast = (image : Image) (points : Points) (p : Prog) (limits : Limits) (args : List Value) (shows : Shows image points p limits) (fit : FitMain p args) (words : ℕ) (m : Monitor) → StandsAfter image points limits args words m →
    (any : Bool) (chosen : ℕ → ℕ → Bool) → AreChosen chosen any (spots_in m) → (f i most : ℕ) (new : Machine) (before after : SinkSeen) (b : Breaks (IsSpotAt (spots_in m) any) f i (from_in m) most m.machine new before after) →
    (n : ℕ) × (at : PointAt) × ((shows.runs args fit).count n ≡ words + b.count) × IsLeastAhead p limits args (shows.runs args fit).count chosen (words + from_in m) n
    × PointShows image p limits (state_after p limits args n) (image_after image limits args (words + b.count)) at × (at.func ≡ f) × (at.item ≡ i)

-- The monitor then stands after the words that the call executed.
abbrev pub StopsStandLater : Type 0
StopsStandLater = (image : Image) (points : Points) (limits : Limits) (args : List Value) (words : ℕ) (m new : Monitor) → StandsAfter image points limits args words m → spots_in new ≡ spots_in m →
    (any : Bool) (f i most : ℕ) (before after : SinkSeen) (b : Breaks (IsSpotAt (spots_in m) any) f i (from_in m) most m.machine new.machine before after) → StandsAfter image points limits args (words + b.count) new

-- ---- calls that stop at no point

-- Over such an image, where a call has executed all of its words, each chosen item ahead comes after them; the machine runs on, and the
-- monitor then stands after those words.
abbrev pub SpendsPassNone : Type 0
SpendsPassNone = (image : Image) (points : Points) (p : Prog) (limits : Limits) (args : List Value) (shows : Shows image points p limits) (fit : FitMain p args) (words : ℕ) (m new : Monitor) → StandsAfter image points limits args words m →
    (any : Bool) (chosen : ℕ → ℕ → Bool) → AreChosen chosen any (spots_in m) → (most : ℕ) (before after : SinkSeen) → Spends (IsSpotAt (spots_in m) any) (from_in m) most m.machine new.machine before after → spots_in new ≡ spots_in m →
    ((n : ℕ) → IsAhead p limits args (shows.runs args fit).count chosen (words + from_in m) n → words + most < (shows.runs args fit).count n)
    × ((image_after image limits args (words + most)).stopped ≡ None) × StandsAfter image points limits args (words + most) new

-- Where the machine has stopped within a call's words, no chosen item is ahead; it is stopped so after all of the words, and the monitor
-- stands after them.
abbrev pub PassesLeaveNone : Type 0
PassesLeaveNone = (image : Image) (points : Points) (p : Prog) (limits : Limits) (args : List Value) (shows : Shows image points p limits) (fit : FitMain p args) (words : ℕ) (m new : Monitor) → StandsAfter image points limits args words m →
    (any : Bool) (chosen : ℕ → ℕ → Bool) → AreChosen chosen any (spots_in m) → (how : Stop) (most : ℕ) (before after : SinkSeen) → Passes (IsSpotAt (spots_in m) any) how (from_in m) most m.machine new.machine before after → spots_in new ≡ spots_in m →
    ((n : ℕ) → IsAhead p limits args (shows.runs args fit).count chosen (words + from_in m) n → ⊥)
    × ((image_after image limits args (words + most)).stopped ≡ Some how) × StandsAfter image points limits args (words + most) new

-- And it never traps.
abbrev pub NoneTraps : Type 0
NoneTraps = (image : Image) (points : Points) (p : Prog) (limits : Limits) (args : List Value) → Shows image points p limits → FitMain p args → (words : ℕ) (m : Monitor) → StandsAfter image points limits args words m →
    (any : Bool) (trap : Trap) (most : ℕ) (new : Machine) (before after : SinkSeen) → Passes (IsSpotAt (spots_in m) any) (Trapped trap) (from_in m) most m.machine new before after → ⊥

-- Where a print failed, each chosen item ahead comes after the words before it.
abbrev pub FailsPassNone : Type 0
FailsPassNone = (image : Image) (points : Points) (p : Prog) (limits : Limits) (args : List Value) (shows : Shows image points p limits) (fit : FitMain p args) (words : ℕ) (m : Monitor) → StandsAfter image points limits args words m →
    (any : Bool) (chosen : ℕ → ℕ → Bool) → AreChosen chosen any (spots_in m) → (most : ℕ) (new : Machine) (before after : SinkSeen) (failed : Fails (IsSpotAt (spots_in m) any) (from_in m) most m.machine new before after) →
    (n : ℕ) → IsAhead p limits args (shows.runs args fit).count chosen (words + from_in m) n → words + failed.executed < (shows.runs args fit).count n

-- ---- marks

-- the chosen items, and those of this function and item or not
abbrev pub chosen_with : ℕ → ℕ → Bool → (ℕ → ℕ → Bool) → ℕ → ℕ → Bool
chosen_with f i on chosen g j = if g == f && j == i then on else chosen g j

-- Where the marked spots are those of the chosen items, they are so after more marks.
abbrev pub MarksChoose : Type 0
MarksChoose = (spots : List (Option Spot)) (chosen : ℕ → ℕ → Bool) (f i : ℕ) (on : Bool) → AreChosen chosen false spots → AreChosen (chosen_with f i on chosen) false (with_marks f i on spots)

-- And the monitor stands where it stood.
abbrev pub MarksStand : Type 0
MarksStand = (image : Image) (points : Points) (limits : Limits) (args : List Value) (words : ℕ) (m new : Monitor) (f i : ℕ) (on : Bool) → StandsAfter image points limits args words m →
    spots_in new ≡ with_marks f i on (spots_in m) → machine_in new ≡ machine_in m → StandsAfter image points limits args words new

-- ---- values

-- Where a monitor has stopped at a point, what it answers for a variable is what the point shows of it.
abbrev pub ValuesAreThePoints : Type 0
ValuesAreThePoints = (image : Image) (points : Points) (limits : Limits) (args : List Value) (words : ℕ) (m : Monitor) (at : PointAt) (x : ℕ) (answer : Option Value) → StandsAfter image points limits args words m →
    IsAtPoint points (image_after image limits args words) at → stop_in m ≡ Some ((state_of (machine_in m)).pc / 4) → IsValueIn m x answer →
    IsShownValue (sizes_of image limits.cells) (image_after image limits args words) at x answer

-- Over an image and points that show a program, a call that stops at a point stops where the program is at the least step ahead whose
-- item is chosen, as above; and for a variable that has an entry there the monitor then answers its value in that state, for any other
-- nothing.
abbrev pub StopsShowValues : Type 0
StopsShowValues = (image : Image) (points : Points) (p : Prog) (limits : Limits) (args : List Value) (shows : Shows image points p limits) (fit : FitMain p args) (words : ℕ) (m new : Monitor) → StandsAfter image points limits args words m →
    (any : Bool) (chosen : ℕ → ℕ → Bool) → AreChosen chosen any (spots_in m) → (f i most : ℕ) (before after : SinkSeen) (b : Breaks (IsSpotAt (spots_in m) any) f i (from_in m) most m.machine new.machine before after) →
    spots_in new ≡ spots_in m → stop_in new ≡ Some ((state_of (machine_in new)).pc / 4) →
    (n : ℕ) × (at : PointAt) × (shown : PointShows image p limits (state_after p limits args n) (image_after image limits args (words + b.count)) at)
    × ((shows.runs args fit).count n ≡ words + b.count) × IsLeastAhead p limits args (shows.runs args fit).count chosen (words + from_in m) n × (at.func ≡ f) × (at.item ≡ i)
    × ((x : ℕ) (answer : Option Value) → IsValueIn new x answer → MatchOption (entry_of x at.homes) (answer ≡ None) (λ h. answer ≡ shown.stops.stands.frame.locations.vars x))

-- ---- entries

-- The monitor has stopped after `now` words at a point of this function and item, where the program, after so many steps, is at the
-- least one ahead whose item is chosen. The point shows the program's state, its entries are the monitor's, and each of them has its
-- variable's value in that state.
pub record StopShown (image : Image) (points : Points) (p : Prog) (limits : Limits) (args : List Value) (run : ShowsRun image points p limits args) (chosen : ℕ → ℕ → Bool) (from now f i : ℕ) (new : Monitor) : Type 0 where
  pub steps : ℕ
  pub counted : run.count steps ≡ now
  pub least : IsLeastAhead p limits args run.count chosen from steps
  pub at : PointAt
  pub is_at : IsAtPoint points (image_after image limits args now) at
  pub func : at.func ≡ f
  pub item : at.item ≡ i
  pub shown : PointShows image p limits (state_after p limits args steps) (image_after image limits args now) at
  pub stands : StandsAfter image points limits args now new
  pub entries : entries_in new ≡ at.homes
  pub entry_values : (k : ℕ) (h : HomeAt) (answer : Option EntryValue) → slice_get at.homes k ≡ Some h → IsEntryIn new k answer →
      (value : Value) × (shown.stops.stands.frame.locations.vars h.var ≡ Some value) × (answer ≡ Some (record { var = h.var; value = value }))
  pub values : (x : ℕ) (answer : Option Value) → IsValueIn new x answer → MatchOption (entry_of x at.homes) (answer ≡ None) (λ h. answer ≡ shown.stops.stands.frame.locations.vars x)

-- So after a call that stops at a point.
abbrev pub StopsShowEntries : Type 0
StopsShowEntries = (image : Image) (points : Points) (p : Prog) (limits : Limits) (args : List Value) (shows : Shows image points p limits) (fit : FitMain p args) (words : ℕ) (m new : Monitor) → StandsAfter image points limits args words m →
    (any : Bool) (chosen : ℕ → ℕ → Bool) → AreChosen chosen any (spots_in m) → (f i most : ℕ) (before after : SinkSeen) (b : Breaks (IsSpotAt (spots_in m) any) f i (from_in m) most m.machine new.machine before after) →
    spots_in new ≡ spots_in m → stop_in new ≡ Some ((state_of (machine_in new)).pc / 4) →
    StopShown image points p limits args (shows.runs args fit) chosen (words + from_in m) (words + b.count) f i new
