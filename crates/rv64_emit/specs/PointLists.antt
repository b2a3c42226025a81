-- The homes of variables, and the points of the items before one.
use Rattle.std.specs.Prelude.{◌≡◌, ◌⊎◌, ℕ, ◌<◌, IsSome, List, length, Some, slice_get}
use Rattle.bril_tree.specs.declared.home.Home.{Home}
use Rattle.bril_tree.specs.declared.numbered.VarInfo.{VarInfo}
use Rattle.bril_tree.specs.declared.program.Prog.{Prog}
use Rattle.bril_tree.specs.Operand.{Location}
use Rattle.bril_tree.specs.Step.{code_of}
use Rattle.bril_tree.specs.Typing.{variable_type}
use Rattle.bril_tree.specs.Walk.{IsReached}
use Rattle.rv64_words.specs.declared.points.HomeAt.{HomeAt}
use Rattle.rv64_words.specs.declared.points.PointAt.{PointAt}
use Rattle.rv64_words.specs.Points.{IsStopAt}
use Rattle.rv64_image_laws.specs.ProgramPoints.{IsEarlier, IsPointOf}

-- ---- homes

-- the variables have types
abbrev pub AreTyped : List VarInfo → List ℕ → Type 0
AreTyped vars variables = (k x : ℕ) → slice_get variables k ≡ Some x → IsSome (variable_type vars x)

-- It is where the variable is, and its type.
pub record IsHomeFor (home : ℕ → Home) (vars : List VarInfo) (variable : ℕ) (h : HomeAt) : Type 0 where
  pub is : h.var ≡ variable
  pub typed : variable_type vars variable ≡ Some h.ty
  pub there : h.home ≡ home variable

-- They are those of the first so many of the variables, in the same order.
pub record AreHomesFor (home : ℕ → Home) (vars : List VarInfo) (variables : List ℕ) (many : ℕ) (homes : List HomeAt) : Type 0 where
  pub long : length homes ≡ many
  pub are : (k x : ℕ) (h : HomeAt) → slice_get variables k ≡ Some x → slice_get homes k ≡ Some h → IsHomeFor home vars x h

-- ---- points

-- an item is before another: in an earlier function, or earlier in one function
abbrev pub IsBefore : ℕ → ℕ → ℕ → ℕ → Type 0
IsBefore f i g j = (f < g) ⊎ ((f ≡ g) × (i < j))

-- They are the points of the items before item j of function g, in order.
pub record ArePointsBefore (locations : ℕ → Location → Home) (entry : ℕ → ℕ → ℕ) (p : Prog) (g j : ℕ) (points : List PointAt) : Type 0 where
  pub are : (k : ℕ) (at : PointAt) → slice_get points k ≡ Some at → IsPointOf locations entry p at
  pub before : (k : ℕ) (at : PointAt) → slice_get points k ≡ Some at → IsBefore at.func at.item g j
  pub each : (f i : ℕ) → IsBefore f i g j → IsStopAt p f i → IsReached (code_of p f) i → (k : ℕ) × (at : PointAt) × (slice_get points k ≡ Some at) × (at.func ≡ f) × (at.item ≡ i)
  pub in_order : (j k : ℕ) (a b : PointAt) → j < k → slice_get points j ≡ Some a → slice_get points k ≡ Some b → IsEarlier a b
