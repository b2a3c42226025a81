-- Marks leave a monitor where it stands, and values are those that its point shows.
use Rattle.std.proofs.Common.{◌≡◌, ℕ, ◌+◌, ◌*◌, ◌/◌, ◌&&◌, Bool, false, cond, eqb, List, Option, Some, None, refl, sym, ap, ◌∙◌, subst, arith}
use Rattle.std.specs.Prelude.{MatchOption, slice_get}
use Rattle.std.specs.Option.{option_map}
use Rattle.std.proofs.lemmas.Option.{slice_get-map}
use Rattle.rv64_image_laws.specs.Implements.{image_after}
use Rattle.bril_tree.specs.Run.{state_after}
use Rattle.bril_tree.specs.State as bril
use Rattle.bril_tree.specs.declared.value.Value.{Value}
use Rattle.bril_tree.specs.Value.{word_of}
use Rattle.rv64_image_laws.specs.PointsShown.{PointShows}
use Rattle.rv64_image_laws.specs.Stops.{IsShownValue, ShownBy, entry_of}
use Rattle.rv64_image_laws.proofs.PointValues.{home_read, values_are_shown}
use Rattle.rv64_image_laws.proofs.Stopping.{firsts_are_least}
use Rattle.rv64_machine.specs.MachineView.{image_in, sizes_in, state_of}
use Rattle.rv64_machine.specs.StepAnswers.{unprinted}
use Rattle.bril_tree.specs.declared.limits.Limits.{Limits}
use Rattle.bril_tree.specs.declared.program.Prog.{Prog}
use Rattle.rv64_words.specs.declared.image.Image.{Image}
use Rattle.rv64_words.specs.declared.points.HomeAt.{HomeAt}
use Rattle.rv64_words.specs.declared.points.PointAt.{PointAt}
use Rattle.rv64_words.specs.declared.points.Points.{Points}
use Rattle.rv64_words.specs.Points.{IsAtPoint}
use Rattle.rv64_words.specs.State as rv64
use Rattle.rv64_words.specs.Region.{sizes_of}
use Rattle.step_monitor.specs.declared.entry.EntryValue.{EntryValue}
use Rattle.step_monitor.specs.declared.monitor.Monitor.{Monitor}
use Rattle.step_monitor.specs.declared.spots.Spot.{Spot}
use Rattle.step_monitor.specs.Laws.{MarksChoose, MarksStand, StopsShowEntries, StopsShowValues, ValuesAreThePoints, chosen_with}
use Rattle.step_monitor.specs.MonitorView.{IsEntryIn, IsShownEntry, IsValueIn, entries_in, entry_at, entry_in, from_in, homes_at, homes_in, spots_in, stop_in}
use Rattle.step_monitor.specs.Spots.{AreChosen, AreSpots, HasItem, marked_if, with_marks}
use Rattle.step_monitor.specs.Stands.{StandsAfter}
use Rattle.step_monitor.proofs.Absolute.{first_chosen, stops_stand_later}
use Rattle.step_monitor.proofs.Marks.{unmarked}
use Rattle.step_monitor.proofs.Values.{entry_printed, entry_read, shown_printed}

-- ---- marks

module _ (spots : List (Option Spot)) (f i : ℕ) (on : Bool) where
  -- a spot is that of before, but for its mark
  before : (w : ℕ) (spot : Spot) → slice_get (with_marks f i on spots) w ≡ Some (Some spot) → (old : Spot) × (slice_get spots w ≡ Some (Some old)) × (marked_if f i on old ≡ spot)
  before w spot e = unmarked f i on (slice_get spots w) spot (sym (slice_get-map (option_map (marked_if f i on)) spots w) ∙ e)

  pub marked_spots : (points : Points) → AreSpots points spots → AreSpots points (with_marks f i on spots)
  marked_spots points are = record {
    told = λ w spot e.
        (let old = before w spot e in
        let h = are.told w old.0 old.1 in
        (h.0, h.1, h.2, h.3, h.4 ∙ ap (λ (s : Spot). s.func) old.2, h.5 ∙ ap (λ (s : Spot). s.item) old.2, h.6 ∙ ap (λ (s : Spot). s.homes) old.2));
    all = λ k at is.
        (let h = are.all k at is in
        (marked_if f i on h.0, slice_get-map (option_map (marked_if f i on)) spots at.word ∙ ap (option_map (option_map (marked_if f i on))) h.1, h.2, h.3, h.4));
  }

  pub marked_chosen : (chosen : ℕ → ℕ → Bool) → AreChosen chosen false spots → AreChosen (chosen_with f i on chosen) false (with_marks f i on spots)
  marked_chosen chosen are w spot e =
      let old = before w spot e in
      subst (λ (s : Spot). s.marked ≡ chosen_with f i on chosen s.func s.item) old.2
      (ap (cond (eqb old.0.func f && eqb old.0.item i) on) (are w old.0 old.1))

-- an item has a spot exactly where it has a point
pub item_has_point : (points : Points) (spots : List (Option Spot)) (f i : ℕ) → AreSpots points spots → HasItem spots f i → (k : ℕ) × (at : PointAt) × (slice_get points.points k ≡ Some at) × (at.func ≡ f) × (at.item ≡ i)
item_has_point points spots f i are has =
    let h = are.told has.word has.spot has.is in
    (h.0, h.1, h.2, h.4 ∙ has.func, h.5 ∙ has.item)

pub point_has_item : (points : Points) (spots : List (Option Spot)) (k : ℕ) (at : PointAt) → AreSpots points spots → slice_get points.points k ≡ Some at → HasItem spots at.func at.item
point_has_item points spots k at are is =
    let h = are.all k at is in
    record { word = at.word; spot = h.0; is = h.1; func = h.2; item = h.3 }

pub marks_choose : MarksChoose
marks_choose spots chosen f i on are = marked_chosen spots f i on chosen are

pub marks_stand : MarksStand
marks_stand image points limits args words m new f i on stands marks same = record {
  image_is = ap image_in same ∙ stands.image_is;
  sizes_are = ap sizes_in same ∙ stands.sizes_are;
  state_is = ap state_of same ∙ stands.state_is;
  spots_are = subst (AreSpots points) (sym marks) (marked_spots (spots_in m) f i on points stands.spots_are);
}

-- ---- values

quarter : (pc word : ℕ) → pc ≡ 4 * word → pc / 4 ≡ word
quarter pc word e = omega arith

-- the point of a monitor that has stopped there
module _ (image : Image) (points : Points) (limits : Limits) (args : List Value) (words : ℕ) (m : Monitor) (at : PointAt) (stands : StandsAfter image points limits args words m) (is : IsAtPoint points (image_after image limits args words) at) (stopped : stop_in m ≡ Some ((state_of m.machine).pc / 4)) where
  word_here : stop_in m ≡ Some at.word
  word_here = stopped ∙ ap Some (quarter (state_of m.machine).pc at.word (ap (λ s. s.pc) stands.state_is ∙ is.at_word))

  -- its entries are the point's
  pub entries_here : entries_in m ≡ at.homes
  entries_here =
      let spot = stands.spots_are.all is.place at is.is in
      ap (homes_in (spots_in m)) word_here ∙ (ap homes_at spot.1 ∙ spot.4)

  pub entry_here : (k : ℕ) (h : HomeAt) (answer : Option EntryValue) → slice_get at.homes k ≡ Some h → IsEntryIn m k answer → IsShownEntry (sizes_of image limits.cells) (image_after image limits args words) (Some h) answer
  entry_here k h answer there shown =
      let t = image_after image limits args words in
      entry_printed (sizes_of image limits.cells) t h answer
      (subst (λ z. IsShownEntry z (unprinted t) (Some h) answer) stands.sizes_are
      (subst (λ s. IsShownEntry (sizes_in m.machine) s (Some h) answer) stands.state_is
      (subst (λ o. IsShownEntry (sizes_in m.machine) (state_of m.machine) o answer) (ap (λ l. slice_get l k) entries_here ∙ there) shown)))

  value_here : (x : ℕ) (answer : Option Value) → IsValueIn m x answer → IsShownValue (sizes_of image limits.cells) (image_after image limits args words) at x answer
  value_here x answer value =
      let z = sizes_of image limits.cells in
      let t = image_after image limits args words in
      let spot = stands.spots_are.all is.place at is.is in
      let entry : entry_in (spots_in m) (stop_in m) x ≡ entry_of x at.homes = ap (λ o. entry_in (spots_in m) o x) word_here ∙ (ap (λ o. entry_at o x) spot.1 ∙ ap (entry_of x) spot.4) in
      shown_printed z t (entry_of x at.homes) answer
      (subst (λ y. ShownBy y (unprinted t) (entry_of x at.homes) answer) stands.sizes_are
      (subst (λ s. ShownBy (sizes_in m.machine) s (entry_of x at.homes) answer) stands.state_is
      (subst (λ o. ShownBy (sizes_in m.machine) (state_of m.machine) o answer) entry value)))

pub values_are_the_points : ValuesAreThePoints
values_are_the_points image points limits args words m at x answer stands is stopped value = value_here image points limits args words m at stands is stopped x answer value

-- what a point shows of the program
module _ (image : Image) (p : Prog) (limits : Limits) (s : bril.State) (t : rv64.State) (at : PointAt) (shows : PointShows image p limits s t at) where
  shown_value : (x : ℕ) (answer : Option Value) → IsShownValue (sizes_of image limits.cells) t at x answer →
      (o : Option HomeAt) → entry_of x at.homes ≡ o → MatchOption o (answer ≡ None) (λ h. answer ≡ shows.stops.stands.frame.locations.vars x)
  shown_value x answer is None e = subst (λ o. ShownBy (sizes_of image limits.cells) t o answer) e is
  shown_value x answer is (Some h) e = values_are_shown image p limits s t at shows x h answer e is

  shown_entry : (k : ℕ) (h : HomeAt) (answer : Option EntryValue) → slice_get at.homes k ≡ Some h → IsShownEntry (sizes_of image limits.cells) t (Some h) answer →
      (value : Value) × (shows.stops.stands.frame.locations.vars h.var ≡ Some value) × (answer ≡ Some (record { var = h.var; value = value }))
  shown_entry k h answer there is =
      let home = shows.homes k h there in
      let word = home_read (sizes_of image limits.cells) t h.home (word_of home.value) home.named home.at_home in
      (home.value, home.holds, entry_read (sizes_of image limits.cells) t h home.value answer home.suits word is)

pub stops_show_entries : StopsShowEntries
stops_show_entries image points p limits args shows fit words m new stands any chosen are f i most before after b same stopped =
    let now = words + b.count in
    let t = image_after image limits args now in
    let first = first_chosen image points limits args words m stands any chosen are f i (from_in m) most new.machine before after b in
    let at = first.0 in
    let least = firsts_are_least image points p limits args chosen (shows.runs args fit) (words + from_in m) now at shows.points_in first.1 in
    let later = stops_stand_later image points limits args words m new stands same any f i most before after b in
    let here = first.1.is.is in
    record {
      steps = least.0;
      counted = least.1;
      least = least.2;
      at = at;
      is_at = here;
      func = first.2;
      item = first.3;
      shown = least.3;
      stands = later;
      entries = entries_here image points limits args now new at later here stopped;
      entry_values = λ k h answer there is.
          shown_entry image p limits (state_after p limits args least.0) t at least.3 k h answer there (entry_here image points limits args now new at later here stopped k h answer there is);
      values = λ x answer is.
          shown_value image p limits (state_after p limits args least.0) t at least.3 x answer (value_here image points limits args now new at later here stopped x answer is) (entry_of x at.homes) refl;
    }

pub stops_show_values : StopsShowValues
stops_show_values image points p limits args shows fit words m new stands any chosen are f i most before after b same stopped =
    let s = stops_show_entries image points p limits args shows fit words m new stands any chosen are f i most before after b same stopped in
    (s.steps, s.at, s.shown, s.counted, s.least, s.func, s.item, s.values)
