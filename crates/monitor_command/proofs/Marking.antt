-- Marks of the monitor are those of the script.
use Rattle.std.proofs.Common.{◌≡◌, ℕ, ◌<◌, Bool, true, false, List, [], ◌∷◌, ◌++◌, length, get_or, Option, Some, None, refl, sym, ap, ◌∙◌, subst, inl, inr, arith}
use Rattle.std.specs.Prelude.{Contains, if◌then◌else◌, slice_get}
use Rattle.std.specs.Option.{option_map}
use Rattle.std.proofs.lemmas.List.{get_or-map, get_or_default, length-map}
use Rattle.std.proofs.lemmas.Option.{get_or_from_slice_get, slice_get-get_or, slice_get-map, slice_get_within}
use Rattle.bril_commands.specs.commands.Monitor.{CarriesOut, IsPointNamed, Session, absent_pieces, marked_with}
use Rattle.bril_names.proofs.Functions.{Differ-functions}
use Rattle.bril_names.proofs.Naming.{one_number}
use Rattle.bril_names.specs.Numbering.{Finds}
use Rattle.bril_outside.proofs.SinkWrites.{PutSome-longer}
use Rattle.bril_outside.specs.Sink.{PutSome, SinkSeen}
use Rattle.bril_report.proofs.Puts.{PutsAll-none}
use Rattle.bril_report.specs.Puts.{PutsAll}
use Rattle.bril_tree.specs.Numbered.{named, names_of_functions}
use Rattle.bril_tree.specs.declared.limits.End.{End}
use Rattle.bril_tree.specs.declared.numbered_function.Func.{Func}
use Rattle.bril_tree.specs.declared.program.Prog.{Prog}
use Rattle.monitor_command.proofs.Total.{carries_out_total}
use Rattle.monitor_command.specs.Carried.{BreaksOff, Follows, GoesOn, IsShown, ShowsIn, carries, run_of}
use Rattle.monitor_command.specs.declared.progress.Progress.{Progress}
use Rattle.monitor_command.specs.declared.target.Target.{Target}
use Rattle.monitor_script.specs.declared.order.Order.TheVariants as order
use Rattle.monitor_script.specs.declared.order.Order.{Order}
use Rattle.rv64_machine.specs.MachineView.{has_failed, image_in, sizes_in, state_of}
use Rattle.step_monitor.proofs.Standing.{item_has_point, marks_choose, marks_stand, point_has_item}
use Rattle.step_monitor.specs.MonitorView.{IsEntryIn, IsShownEntry, entries_in, homes_at, homes_in, is_left, machine_in, spots_in, stop_in}
use Rattle.step_monitor.specs.Spots.{AreChosen, AreSpots, HasItem, marked_if, with_marks}
use Rattle.step_monitor.specs.declared.entry.EntryValue.{EntryValue}
use Rattle.step_monitor.specs.declared.monitor.Monitor.{Monitor}
use Rattle.step_monitor.specs.declared.spots.Spot.{Spot}

-- ---- entries

homes_marked : (f i : ℕ) (marked : Bool) (o : Option (Option Spot)) → homes_at (option_map (option_map (marked_if f i marked)) o) ≡ homes_at o
homes_marked f i marked None = refl
homes_marked f i marked (Some None) = refl
homes_marked f i marked (Some (Some spot)) = refl

-- marks change no entry
homes_with_marks : (f i : ℕ) (marked : Bool) (spots : List (Option Spot)) (o : Option ℕ) → homes_in (with_marks f i marked spots) o ≡ homes_in spots o
homes_with_marks f i marked spots None = refl
homes_with_marks f i marked spots (Some word) = ap homes_at (slice_get-map (option_map (marked_if f i marked)) spots word) ∙ homes_marked f i marked (slice_get spots word)

-- what is answered for an entry depends on the machine and the entries alone
entry_same : (old new : Monitor) → machine_in new ≡ machine_in old → entries_in new ≡ entries_in old → (k : ℕ) (answer : Option EntryValue) → IsEntryIn new k answer → IsEntryIn old k answer
entry_same old new machine entries k answer is =
    subst (λ m. IsShownEntry (sizes_in m) (state_of m) (slice_get (entries_in old) k) answer) machine
    (subst (λ homes. IsShownEntry (sizes_in (machine_in new)) (state_of (machine_in new)) (slice_get homes k) answer) entries is)

lines_same : (p : Prog) (old new : Monitor) → machine_in new ≡ machine_in old → entries_in new ≡ entries_in old → (func : Option ℕ) (lines : List (List ℕ)) → ShowsIn p func old lines → ShowsIn p func new lines
lines_same p old new machine entries None lines shows = shows
lines_same p old new machine entries (Some func) lines shows = record {
  at = shows.at;
  locations = shows.locations;
  of_function = shows.of_function;
  entries = entries ∙ shows.entries;
  values = λ k h answer is answered. shows.values k h answer is (entry_same old new machine entries k answer answered);
  pieces = shows.pieces;
}

-- ---- names

module _ (p : Prog) (name : List ℕ) (f : ℕ) (func : Func) (is : slice_get p.funcs f ≡ Some func) (has : func.name ≡ name) where
  function_in : f < length p.funcs
  function_in = slice_get_within p.funcs f func is

  name_in : f < length (names_of_functions p.funcs)
  name_in = subst (λ n. f < n) (sym (length-map p.funcs (λ (g : Func). g.name))) function_in

  name_is : named (names_of_functions p.funcs) f ≡ name
  name_is = get_or-map (λ (g : Func). g.name) p.funcs f func [] function_in ∙ (ap (λ (g : Func). g.name) (get_or_from_slice_get p.funcs f func func is) ∙ has)

  pub has_name : Contains (names_of_functions p.funcs) name
  has_name = (f, name_in, get_or_default (names_of_functions p.funcs) f name [] name_in ∙ name_is)

  -- no other function has it
  pub one_function : (k : ℕ) → Finds (names_of_functions p.funcs) name (Some k) → f ≡ k
  one_function k finds = one_number (names_of_functions p.funcs) (Differ-functions p) f k name_in finds.0 (name_is ∙ sym finds.1)

-- the function that was found
function_found : (p : Prog) (name : List ℕ) (k : ℕ) → Finds (names_of_functions p.funcs) name (Some k) → (func : Func) × (slice_get p.funcs k ≡ Some func) × (func.name ≡ name)
function_found p name k finds = by p.funcs (subst (λ n. k < n) (length-map p.funcs (λ (g : Func). g.name)) finds.0) finds.1
  where
    by : (fs : List Func) → k < length fs → named (names_of_functions fs) k ≡ name → (func : Func) × (slice_get fs k ≡ Some func) × (func.name ≡ name)
    by [] within is = absurd (within_none within)
      where
        within_none : k < 0 → ⊥
        within_none less = omega arith
    by (g ∷ gs) within is =
        let func = get_or (g ∷ gs) k g in
        (func, slice_get-get_or (g ∷ gs) k g within, sym (get_or-map (λ (h : Func). h.name) (g ∷ gs) k g [] within) ∙ is)

-- ---- the order

module _ (on : Target) (is : IsShown on) (name : List ℕ) (item : ℕ) (marked : Bool) (s : Session) (old new : Progress) (follows : Follows on s old) where
  abbrev p : Prog
  p = on.program.now

  abbrev asked : Order
  asked = if marked then order.Break name item else order.Clear name item

  abbrev After : List Order → Session → Option End → List (List ℕ) → Type 0
  After rest = CarriesOut on.image.now on.points.now p on.settings.limits on.values.now (run_of on is) on.settings.steps rest

  -- its function has a point of the item
  marks : (b : Bool) (rest : List Order) (ended : Option End) (more : List (List ℕ)) (f : ℕ) → IsPointNamed p on.points.now name item f → After rest (record s { marked = marked_with f item b s.marked }) ended more → carries on is ((if b then order.Break name item else order.Clear name item) ∷ rest) s ended more
  marks true rest ended more f there goes = inl (f, there, goes)
  marks false rest ended more f there goes = inl (f, there, goes)

  -- no function of the name has one
  tells : (b : Bool) (rest : List Order) (ended : Option End) (more output : List (List ℕ)) → ((f : ℕ) → IsPointNamed p on.points.now name item f → ⊥) → output ≡ absent_pieces name item ++ more → After rest s ended more → carries on is ((if b then order.Break name item else order.Clear name item) ∷ rest) s ended output
  tells true rest ended more output none same goes = inr (none, (more, same, goes))
  tells false rest ended more output none same goes = inr (none, (more, same, goes))

  -- the point was found, and marked
  pub marks_go_on : (f : ℕ) (t : SinkSeen) → Finds (names_of_functions p.funcs) name (Some f) → HasItem (spots_in old.monitor) f item → spots_in new.monitor ≡ with_marks f item marked (spots_in old.monitor) → machine_in new.monitor ≡ machine_in old.monitor
      → is_left new.monitor ≡ is_left old.monitor → stop_in new.monitor ≡ stop_in old.monitor → new.func ≡ old.func → GoesOn on is asked s new t t
  marks_go_on f t finds has spots machine left stop func =
      let found = function_found p name f finds in
      let point = item_has_point on.points.now (spots_in old.monitor) f item follows.stands.spots_are has in
      let there : IsPointNamed p on.points.now name item f = record { func = found.0; is_function = found.1; named = found.2; place = point.0; at = point.1; listed = point.2; of_function = point.3; of_item = point.4 } in
      let entries : entries_in new.monitor ≡ entries_in old.monitor = ap (λ l. homes_in l (stop_in new.monitor)) spots ∙ (ap (homes_in (with_marks f item marked (spots_in old.monitor))) stop ∙ homes_with_marks f item marked (spots_in old.monitor) (stop_in old.monitor)) in
      record {
        session = record s { marked = marked_with f item marked s.marked };
        follows = record {
          stands = marks_stand on.image.now on.points.now on.settings.limits on.values.now s.words old.monitor new.monitor f item marked follows.stands spots machine;
          running = follows.running;
          within = follows.within;
          chosen = subst (AreChosen (marked_with f item marked s.marked) false) (sym spots) (marks_choose (spots_in old.monitor) s.marked f item marked follows.chosen);
          left = left ∙ follows.left;
          sound = ap has_failed machine ∙ follows.sound;
          lines = subst (λ o. ShowsIn p o new.monitor s.lines) (sym func) (lines_same p old.monitor new.monitor machine entries old.func s.lines follows.lines);
        };
        pieces = [];
        puts = PutsAll-none t;
        comes = λ rest ended more goes. marks marked rest ended more f there goes;
      }

  -- none was found
  module _ (none : (f : ℕ) → IsPointNamed p on.points.now name item f → ⊥) where
    pub absent_goes_on : (before after : SinkSeen) → Follows on s new → PutsAll before (absent_pieces name item) after → GoesOn on is asked s new before after
    absent_goes_on before after same puts = record {
      session = s;
      follows = same;
      pieces = absent_pieces name item;
      puts = puts;
      comes = λ rest ended more goes. tells marked rest ended more (absent_pieces name item ++ more) none refl goes;
    }

    pub absent_breaks_off : (before after : SinkSeen) → PutSome before (absent_pieces name item) after → (rest : List Order) → BreaksOff on is asked s rest before after
    absent_breaks_off before after put rest =
        let more = carries_out_total on.image.now on.points.now p on.settings.limits on.values.now (run_of on is) is.shows.points_in is.shows.implements is.fits on.settings.steps rest s in
        record {
          ended = more.0;
          output = absent_pieces name item ++ more.1;
          comes = tells marked rest more.0 more.1 (absent_pieces name item ++ more.1) none refl more.2;
          put = PutSome-longer more.1 put;
        }

  -- the name is no function's
  pub no_function : Finds (names_of_functions p.funcs) name None → (f : ℕ) → IsPointNamed p on.points.now name item f → ⊥
  no_function none f there = none (has_name p name f there.func there.is_function there.named)

  -- its function has no such point
  pub no_point : (k : ℕ) → Finds (names_of_functions p.funcs) name (Some k) → (HasItem (spots_in old.monitor) k item → ⊥) → (f : ℕ) → IsPointNamed p on.points.now name item f → ⊥
  no_point k finds none f there =
      let same : f ≡ k = one_function p name f there.func there.is_function there.named k finds in
      none (subst (λ g. HasItem (spots_in old.monitor) g item) (there.of_function ∙ same)
      (subst (HasItem (spots_in old.monitor) there.at.func) there.of_item (point_has_item on.points.now (spots_in old.monitor) there.place there.at follows.stands.spots_are there.listed)))

  -- the monitor was left as it was
  pub unmarked_follows : spots_in new.monitor ≡ spots_in old.monitor → machine_in new.monitor ≡ machine_in old.monitor → is_left new.monitor ≡ is_left old.monitor → stop_in new.monitor ≡ stop_in old.monitor → new.func ≡ old.func → Follows on s new
  unmarked_follows spots machine left stop func =
      let entries : entries_in new.monitor ≡ entries_in old.monitor = ap (λ l. homes_in l (stop_in new.monitor)) spots ∙ ap (homes_in (spots_in old.monitor)) stop in
      record {
        stands = record {
          image_is = ap image_in machine ∙ follows.stands.image_is;
          sizes_are = ap sizes_in machine ∙ follows.stands.sizes_are;
          state_is = ap state_of machine ∙ follows.stands.state_is;
          spots_are = subst (AreSpots on.points.now) (sym spots) follows.stands.spots_are;
        };
        running = follows.running;
        within = follows.within;
        chosen = subst (AreChosen s.marked false) (sym spots) follows.chosen;
        left = left ∙ follows.left;
        sound = ap has_failed machine ∙ follows.sound;
        lines = subst (λ o. ShowsIn p o new.monitor s.lines) (sym func) (lines_same p old.monitor new.monitor machine entries old.func s.lines follows.lines);
      }
