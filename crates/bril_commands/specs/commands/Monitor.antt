-- `monitor`: an accepted program is made into machine words, and a script says where the machine that executes them stops and when the
-- values of the program's variables are written.
use Rattle.std.specs.Fmt.{decimal, signed_decimal}
use Rattle.std.specs.List.{flat_map}
use Rattle.std.specs.Prelude.{ℕ, zero, suc, ◌≡◌, ◌⊎◌, ◌+◌, ◌-◌, ◌<◌, ◌≤◌, ◌==◌, ◌&&◌, Bool, true, false, List, [], ◌∷◌, ◌++◌, Option, Some, None, if◌then◌else◌, codes, slice_get}
use Rattle.bril_outside.specs.Files.{FilesSeen}
use Rattle.bril_outside.specs.Sink.{SinkSeen}
use Rattle.bril_report.specs.Lines.{variable_name}
use Rattle.bril_report.specs.declared.status.Status.{Status}
use Rattle.bril_tree.specs.Run.{FitMain, state_after}
use Rattle.bril_tree.specs.State.{Locals}
use Rattle.bril_tree.specs.Value.{shown}
use Rattle.bril_tree.specs.declared.limits.End.TheVariants.{Ended, Faulted}
use Rattle.bril_tree.specs.declared.limits.End.{End}
use Rattle.bril_tree.specs.declared.limits.Limits.{Limits}
use Rattle.bril_tree.specs.declared.numbered_function.Func.{Func}
use Rattle.bril_tree.specs.declared.program.Prog.{Prog}
use Rattle.bril_tree.specs.declared.value.Value.TheVariants.{Ptr}
use Rattle.bril_tree.specs.declared.value.Value.{Value}
use Rattle.monitor_script.specs.declared.order.Order.TheVariants as order
use Rattle.monitor_script.specs.declared.order.Order.{Order}
use Rattle.rv64_image_laws.specs.Implements.{image_after}
use Rattle.rv64_image_laws.specs.ListsPoints.{ListsPoints}
use Rattle.rv64_image_laws.specs.PointsShown.{PointShows, Shows, ShowsRun}
use Rattle.rv64_image_laws.specs.Stops.{IsAhead, IsLeastAhead}
use Rattle.rv64_words.specs.State.{Finished}
use Rattle.rv64_words.specs.declared.image.Image.{Image}
use Rattle.rv64_words.specs.declared.points.HomeAt.{HomeAt}
use Rattle.rv64_words.specs.declared.points.PointAt.{PointAt}
use Rattle.rv64_words.specs.declared.points.Points.{Points}
use Rattle.bril_commands.specs.Arguments.{AreOnlyValues, RefusesArgs}
use Rattle.bril_commands.specs.Command.{OfProgram, OfMain, ImageFor, AreLimitsOf, Fits, RefusesEmission}
use Rattle.bril_commands.specs.Driver.{IsSilent, Stage}
use Rattle.bril_commands.specs.Outcome.{Outcome, Works, untrapped}
use Rattle.bril_commands.specs.Profiles.{NamedScript}
use Rattle.bril_commands.specs.Scripts.{IsScriptAt, RefusesScript}
use Rattle.bril_commands.specs.commands.Run.{piece_of, printed_next}

-- ---- lines, in pieces of which each is one put

abbrev pub place_pieces : (front name : List ℕ) (item : ℕ) → List (List ℕ)
place_pieces front name item = front ∷ name ∷ codes " " ∷ decimal item ∷ codes "\n" ∷ []

-- the machine stopped at an item of a function
abbrev pub stop_pieces : (name : List ℕ) (item : ℕ) → List (List ℕ)
stop_pieces name item = place_pieces (codes "stop @") name item

-- there is no point of the item
abbrev pub absent_pieces : (name : List ℕ) (item : ℕ) → List (List ℕ)
absent_pieces name item = place_pieces (codes "no point @") name item

-- a value as `print` shows it; a pointer by its block and its offset
abbrev pub value_pieces : Value → List (List ℕ)
value_pieces (Ptr block offset) = codes "ptr " ∷ decimal block ∷ codes " " ∷ signed_decimal offset ∷ []
value_pieces value = shown value ∷ []

-- a variable that has a value
abbrev pub variable_pieces : (name : List ℕ) → Option Value → List (List ℕ)
variable_pieces name None = []
variable_pieces name (Some value) = name ∷ codes ": " ∷ (value_pieces value ++ codes "\n" ∷ [])

-- the variables at a point, in order
abbrev pub point_pieces : Prog → (func : ℕ) → Locals → List HomeAt → List (List ℕ)
point_pieces p func locals homes = flat_map (λ (h : HomeAt). variable_pieces (variable_name p func h.var) (locals.vars h.var)) homes

-- the end of the program; a fault has no line here
abbrev pub end_pieces : End → List (List ℕ)
end_pieces Ended = codes "end\n" ∷ []
end_pieces (Faulted fault) = []

-- what words print, in pieces: so many words after the first ones
abbrev pub pieces_after : Image → Limits → List Value → (first more : ℕ) → List (List ℕ)
pieces_after image limits values first zero = []
pieces_after image limits values first (suc more) = pieces_after image limits values first more ++ piece_of (printed_next image limits (image_after image limits values (first + more)))

-- ---- what a script does

-- How far a script has come: how many words the machine has executed, whether it has stopped where it stands, which items are
-- marked, and what `show` writes.
pub record Session : Type 0 where
  pub words : ℕ
  pub left : Bool
  pub marked : ℕ → ℕ → Bool
  pub lines : List (List ℕ)

abbrev pub first_session : Session
first_session = record { words = 0; left = false; marked = λ f i. false; lines = [] }

-- the marked items, and this one, or without this one
abbrev pub marked_with : ℕ → ℕ → Bool → (ℕ → ℕ → Bool) → ℕ → ℕ → Bool
marked_with f i on marked g j = if g == f && j == i then on else marked g j

-- the items at which a run stops: all that are points, or the marked ones
abbrev pub stops_by : Bool → (ℕ → ℕ → Bool) → ℕ → ℕ → Bool
stops_by true marked f i = true
stops_by false marked f i = marked f i

-- after how many words the next stop may be
abbrev pub from_session : Session → ℕ
from_session s = if s.left then suc s.words else s.words

-- The function of this name has a point of the item.
pub record IsPointNamed (p : Prog) (points : Points) (name : List ℕ) (item f : ℕ) : Type 0 where
  pub func : Func
  pub is_function : slice_get p.funcs f ≡ Some func
  pub named : func.name ≡ name
  pub place : ℕ
  pub at : PointAt
  pub listed : slice_get points.points place ≡ Some at
  pub of_function : at.func ≡ f
  pub of_item : at.item ≡ item

-- Over an image and points that show a program with these arguments, for so many words in all.
module _ (image : Image) (points : Points) (p : Prog) (limits : Limits) (values : List Value) (runs : ShowsRun image points p limits values) (steps : ℕ) where
  -- After n steps the program is for the first time at an item of those that a run stops at and that the machine has neither left nor
  -- stopped at; the machine is there within the steps, and the point shows the program's state.
  pub record StopsNext (any : Bool) (s : Session) (n : ℕ) (at : PointAt) : Type 0 where
    pub least : IsLeastAhead p limits values runs.count (stops_by any s.marked) (from_session s) n
    pub within : runs.count n ≤ steps
    pub shown : PointShows image p limits (state_after p limits values n) (image_after image limits values (runs.count n)) at

  -- there is no such item within the steps
  abbrev pub StopsNowhere : Bool → Session → Type 0
  StopsNowhere any s = (n : ℕ) → IsAhead p limits values runs.count (stops_by any s.marked) (from_session s) n → steps < runs.count n

  -- the machine stopped there
  abbrev pub stopped_at : (any : Bool) (s : Session) (n : ℕ) (at : PointAt) → StopsNext any s n at → Session
  stopped_at any s n at stops = record {
    words = runs.count n;
    left = true;
    marked = s.marked;
    lines = point_pieces p at.func stops.shown.stops.stands.frame.locations at.homes;
  }

  -- `break` or `clear`: the item is marked, or not, or has no point, which is written
  abbrev pub Marks : Bool → (name : List ℕ) (item : ℕ) → (Session → Option End → List (List ℕ) → Type 0) → Session → Option End → List (List ℕ) → Type 0
  Marks on name item Goes s ended output =
      ((f : ℕ) × IsPointNamed p points name item f × Goes (record s { marked = marked_with f item on s.marked }) ended output)
      ⊎ (((f : ℕ) → IsPointNamed p points name item f → ⊥) × ((more : List (List ℕ)) × (output ≡ absent_pieces name item ++ more) × Goes s ended more))

  -- `go` or `step`: what words print is written, and the machine stops at the next item, or the program ends, or the steps are made
  abbrev pub Runs : Bool → (Session → Option End → List (List ℕ) → Type 0) → Session → Option End → List (List ℕ) → Type 0
  Runs any Goes s ended output =
      ((n : ℕ) × (at : PointAt) × (stops : StopsNext any s n at) × (func : Func) × (slice_get p.funcs at.func ≡ Some func) × (more : List (List ℕ))
      × (output ≡ pieces_after image limits values s.words (runs.count n - s.words) ++ (stop_pieces func.name at.item ++ more)) × Goes (stopped_at any s n at stops) ended more)
      ⊎ (StopsNowhere any s × (((end : End) × (ended ≡ Some end) × ((image_after image limits values steps).stopped ≡ Some (Finished end)) × (output ≡ pieces_after image limits values s.words (steps - s.words) ++ end_pieces end))
      ⊎ ((ended ≡ None) × ((image_after image limits values steps).stopped ≡ None) × (output ≡ pieces_after image limits values s.words (steps - s.words)))))

  -- `show`: the variables of the last stop are written
  abbrev pub Writes : (Session → Option End → List (List ℕ) → Type 0) → Session → Option End → List (List ℕ) → Type 0
  Writes Goes s ended output = (more : List (List ℕ)) × (output ≡ s.lines ++ more) × Goes s ended more

  -- The orders are carried out one after another, until the program has ended so, or the steps are made, for None; where all were carried
  -- out, the script has ended. This is written.
  abbrev pub CarriesOut : List Order → Session → Option End → (output : List (List ℕ)) → Type 0
  CarriesOut [] s ended output = (ended ≡ Some Ended) × (output ≡ [])
  CarriesOut (order.Break name item ∷ rest) s ended output = Marks true name item (CarriesOut rest) s ended output
  CarriesOut (order.Clear name item ∷ rest) s ended output = Marks false name item (CarriesOut rest) s ended output
  CarriesOut (order.Go ∷ rest) s ended output = Runs false (CarriesOut rest) s ended output
  CarriesOut (order.Step ∷ rest) s ended output = Runs true (CarriesOut rest) s ended output
  CarriesOut (order.Show ∷ rest) s ended output = Writes (CarriesOut rest) s ended output

-- ---- the command

-- An image with points shows the program, at all of its items that a walk leads to; the script has these orders, and carried out on its
-- machine they come to this.
pub record ShowsScript (p : Prog) (values : List Value) (IsScript : List Order → Type 0) (frames cells steps : ℕ) (ended : Option End) (output : List (List ℕ)) : Type 0 where
  pub limits : Limits
  pub are : AreLimitsOf (ImageFor frames cells) limits
  pub image : Image
  pub points : Points
  pub shows : Shows image points p limits
  pub lists : ListsPoints p points
  pub fits : FitMain p values
  pub orders : List Order
  pub script : IsScript orders
  pub carried : CarriesOut image points p limits values (shows.runs values fits) steps orders first_session ended output

-- what a script of so many words at most comes to
abbrev pub monitored : Prog → List Value → (List Order → Type 0) → (frames cells steps : ℕ) → Outcome
monitored p values IsScript frames cells steps = record {
  steps = steps;
  Shows = λ ended told output. (told ≡ []) × ShowsScript p values IsScript frames cells steps ended output;
  Traps = untrapped;
  Exhausts = λ output. ⊥;
  unwritten = [];
}

-- The image of the program, for limits of so many frames and cells, is run as the script says, for so many words in all.
abbrev pub monitors : (frames cells steps : ℕ) → OfProgram
monitors frames cells steps = record {
  arguments = OfMain;
  profile = NamedScript;
  takes_passes = false;
  emission = ImageFor frames cells;
  outcome = λ on. monitored on.source on.values on.IsScript frames cells steps;
}

-- what it answers on an accepted program, with these arguments and this path of a script
abbrev pub DoesMonitored : (frames cells steps : ℕ) → Status → FilesSeen → FilesSeen → Prog → Option (List ℕ) → List (List ℕ) → SinkSeen → SinkSeen → Type 0
DoesMonitored frames cells steps how f g p named args s t =
    Stage (RefusesArgs how p args) (IsSilent [] s t) (λ values. AreOnlyValues p args values) (λ values given.
    Stage (RefusesScript named how f g) (IsSilent [] s t) (λ orders. IsScriptAt named f.holds orders) (λ orders is.
    (RefusesEmission (ImageFor frames cells) how p × IsSilent [] s t)
    ⊎ (Fits (ImageFor frames cells) p × Works (monitored p values (IsScriptAt named f.holds) frames cells steps) how [] s t)))
