-- What the orders of a script come to on the machine of an image, and how far they have come.
use Rattle.std.specs.Prelude.{ℕ, ◌≡◌, ◌≤◌, false, List, [], ◌∷◌, ◌++◌, Option, Some, None, slice_get}
use Rattle.bril_commands.specs.Outcome.{Outcome, untrapped}
use Rattle.bril_commands.specs.commands.Monitor.{CarriesOut, Session, first_session, point_pieces}
use Rattle.bril_outside.specs.Sink.{PutSome, SinkSeen}
use Rattle.bril_report.specs.Puts.{PutsAll}
use Rattle.bril_tree.specs.Run.{FitMain}
use Rattle.bril_tree.specs.State.{Locals}
use Rattle.bril_tree.specs.declared.limits.End.{End}
use Rattle.bril_tree.specs.declared.program.Prog.{Prog}
use Rattle.bril_tree.specs.declared.value.Value.{Value}
use Rattle.monitor_command.specs.declared.progress.Progress.{Progress}
use Rattle.monitor_command.specs.declared.progress.Went.{Went}
use Rattle.monitor_command.specs.declared.progress.Went.TheVariants as went
use Rattle.monitor_command.specs.declared.target.Target.{Target}
use Rattle.monitor_script.specs.declared.order.Order.{Order}
use Rattle.rv64_image_laws.specs.Implements.{image_after}
use Rattle.rv64_image_laws.specs.PointsShown.{Shows, ShowsRun}
use Rattle.rv64_machine.specs.MachineView.{has_failed}
use Rattle.rv64_words.specs.declared.points.HomeAt.{HomeAt}
use Rattle.rv64_words.specs.declared.points.PointAt.{PointAt}
use Rattle.step_monitor.specs.MonitorView.{IsEntryIn, entries_in, is_left, machine_in, spots_in}
use Rattle.step_monitor.specs.Spots.{AreChosen}
use Rattle.step_monitor.specs.Stands.{StandsAfter}
use Rattle.step_monitor.specs.declared.entry.EntryValue.{EntryValue}
use Rattle.step_monitor.specs.declared.monitor.Monitor.{Monitor}

-- ---- what a script is carried out on

-- The image and its points show the program, whose `main` takes the values.
pub record IsShown (on : Target) : Type 0 where
  pub shows : Shows on.image.now on.points.now on.program.now on.settings.limits
  pub fits : FitMain on.program.now on.values.now

abbrev pub run_of : (on : Target) → IsShown on → ShowsRun on.image.now on.points.now on.program.now on.settings.limits on.values.now
run_of on is = is.shows.runs on.values.now is.fits

-- what orders come to on it
abbrev pub carries : (on : Target) → IsShown on → List Order → Session → Option End → List (List ℕ) → Type 0
carries on is orders = CarriesOut on.image.now on.points.now on.program.now on.settings.limits on.values.now (run_of on is) on.settings.steps orders

-- what the work of a script comes to
abbrev pub scripted : (on : Target) → IsShown on → List Order → Outcome
scripted on is orders = record {
  steps = on.settings.steps;
  Shows = λ ended told output. (told ≡ []) × carries on is orders first_session ended output;
  Traps = untrapped;
  Exhausts = λ output. ⊥;
  unwritten = [];
}

-- ---- how far it has come

-- The monitor's entries are those of a point of this function, each with the value of its variable among these, and so are the lines of
-- `show`.
pub record ShowsEntries (p : Prog) (func : ℕ) (m : Monitor) (lines : List (List ℕ)) : Type 0 where
  pub at : PointAt
  pub locations : Locals
  pub of_function : at.func ≡ func
  pub entries : entries_in m ≡ at.homes
  pub values : (k : ℕ) (h : HomeAt) (answer : Option EntryValue) → slice_get at.homes k ≡ Some h → IsEntryIn m k answer →
      (value : Value) × (locations.vars h.var ≡ Some value) × (answer ≡ Some (record { var = h.var; value = value }))
  pub pieces : lines ≡ point_pieces p at.func locations at.homes

-- so where it has stopped in a function; else there are none
abbrev pub ShowsIn : Prog → Option ℕ → Monitor → List (List ℕ) → Type 0
ShowsIn p None m lines = lines ≡ []
ShowsIn p (Some func) m lines = ShowsEntries p func m lines

abbrev pub ShowsLines : Prog → Progress → List (List ℕ) → Type 0
ShowsLines p progress lines = ShowsIn p progress.func progress.monitor lines

-- The monitor has come as far as the script.
pub record Follows (on : Target) (s : Session) (progress : Progress) : Type 0 where
  pub stands : StandsAfter on.image.now on.points.now on.settings.limits on.values.now s.words progress.monitor
  pub running : (image_after on.image.now on.settings.limits on.values.now s.words).stopped ≡ None
  pub within : s.words ≤ on.settings.steps
  pub chosen : AreChosen s.marked false (spots_in progress.monitor)
  pub left : is_left progress.monitor ≡ s.left
  pub sound : has_failed (machine_in progress.monitor) ≡ false
  pub lines : ShowsLines on.program.now progress s.lines

pub record FollowsSome (on : Target) (progress : Progress) : Type 0 where
  pub session : Session
  pub follows : Follows on session progress

-- ---- an order

module _ (on : Target) (is : IsShown on) (order : Order) (s : Session) where
  -- It was carried out, and what comes after it is put after this.
  pub record GoesOn (progress : Progress) (before after : SinkSeen) : Type 0 where
    pub session : Session
    pub follows : Follows on session progress
    pub pieces : List (List ℕ)
    pub puts : PutsAll before pieces after
    pub comes : (rest : List Order) (ended : Option End) (more : List (List ℕ)) → carries on is rest session ended more → carries on is (order ∷ rest) s ended (pieces ++ more)

  -- With it the script is over, whatever comes after it.
  pub record IsOver (ended : Option End) (before after : SinkSeen) : Type 0 where
    pub pieces : List (List ℕ)
    pub puts : PutsAll before pieces after
    pub comes : (rest : List Order) → carries on is (order ∷ rest) s ended pieces

  -- what became of it
  abbrev pub Became : Went → Progress → SinkSeen → SinkSeen → Type 0
  Became went.On progress before after = GoesOn progress before after
  Became (went.Over ended) progress before after = IsOver ended before after

  -- The orders after it are these, and a put failed.
  pub record BreaksOff (rest : List Order) (before after : SinkSeen) : Type 0 where
    pub ended : Option End
    pub output : List (List ℕ)
    pub comes : carries on is (order ∷ rest) s ended output
    pub put : PutSome before output after

-- ---- some orders

-- The first of the orders were carried out, and these are left.
pub record CameTo (on : Target) (is : IsShown on) (orders rest : List Order) (progress : Progress) (before after : SinkSeen) : Type 0 where
  pub session : Session
  pub follows : Follows on session progress
  pub pieces : List (List ℕ)
  pub puts : PutsAll before pieces after
  pub comes : (ended : Option End) (more : List (List ℕ)) → carries on is rest session ended more → carries on is orders first_session ended (pieces ++ more)
