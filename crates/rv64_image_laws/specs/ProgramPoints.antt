-- At which items of a program a monitor stops, and which points they have in an image.
use Rattle.std.specs.Prelude.{◌≡◌, ◌⊎◌, ℕ, ◌<◌, List, Some, slice_get}
use Rattle.bril_tree.specs.declared.home.Home.{Home}
use Rattle.bril_tree.specs.declared.numbered_function.Func.{Func}
use Rattle.bril_tree.specs.declared.program.Prog.{Prog}
use Rattle.bril_tree.specs.Live.{IsLive}
use Rattle.bril_tree.specs.Operand.{Location, Variable}
use Rattle.bril_tree.specs.State as bril
use Rattle.bril_tree.specs.Step.{code_of}
use Rattle.bril_tree.specs.Typing.{variable_type}
use Rattle.bril_tree.specs.Walk.{IsReached}
use Rattle.rv64_words.specs.declared.points.HomeAt.{HomeAt}
use Rattle.rv64_words.specs.declared.points.PointAt.{PointAt}
use Rattle.rv64_words.specs.declared.points.Points.{Points}
use Rattle.rv64_words.specs.Points.{IsStopAt}
use Rattle.rv64_image_laws.specs.Stands.{StandsAt}

-- The program runs, and its newest frame is at an item at which a monitor stops.
pub record StopsAt (p : Prog) (s : bril.State) (f i : ℕ) : Type 0 where
  pub stands : StandsAt s f i
  pub stop : IsStopAt p f i

-- ---- the points of a program

-- The homes are those of the variables that are live at a point of a function, in order, with their types.
pub record AreHomesOf (home : Location → Home) (f : Func) (point : ℕ) (homes : List HomeAt) : Type 0 where
  pub live : (k : ℕ) (h : HomeAt) → slice_get homes k ≡ Some h → IsLive f.code (Variable h.var) point
  pub typed : (k : ℕ) (h : HomeAt) → slice_get homes k ≡ Some h → variable_type f.vars h.var ≡ Some h.ty
  pub there : (k : ℕ) (h : HomeAt) → slice_get homes k ≡ Some h → h.home ≡ home (Variable h.var)
  pub rising : (j k : ℕ) (a b : HomeAt) → j < k → slice_get homes j ≡ Some a → slice_get homes k ≡ Some b → a.var < b.var
  pub all : (x : ℕ) → IsLive f.code (Variable x) point → (k : ℕ) × (h : HomeAt) × (slice_get homes k ≡ Some h) × (h.var ≡ x)

-- It is the point of an item that some walk leads to, whose words begin at this word.
pub record IsPointOf (locations : ℕ → Location → Home) (entry : ℕ → ℕ → ℕ) (p : Prog) (at : PointAt) : Type 0 where
  pub stop : IsStopAt p at.func at.item
  pub reached : IsReached (code_of p at.func) at.item
  pub word : at.word ≡ entry at.func at.item
  pub homes : (f : Func) → slice_get p.funcs at.func ≡ Some f → AreHomesOf (locations at.func) f at.item at.homes

-- one point is before another: in an earlier function, or in one function at an earlier item
abbrev pub IsEarlier : PointAt → PointAt → Type 0
IsEarlier a b = (a.func < b.func) ⊎ ((a.func ≡ b.func) × (a.item < b.item))

-- They are the points of all items at which a monitor stops and that some walk leads to, in order.
pub record ArePointsOf (locations : ℕ → Location → Home) (entry : ℕ → ℕ → ℕ) (p : Prog) (points : Points) : Type 0 where
  pub are : (k : ℕ) (at : PointAt) → slice_get points.points k ≡ Some at → IsPointOf locations entry p at
  pub each : (f i : ℕ) → IsStopAt p f i → IsReached (code_of p f) i → (k : ℕ) × (at : PointAt) × (slice_get points.points k ≡ Some at) × (at.func ≡ f) × (at.item ≡ i)
  pub in_order : (j k : ℕ) (a b : PointAt) → j < k → slice_get points.points j ≡ Some a → slice_get points.points k ≡ Some b → IsEarlier a b
