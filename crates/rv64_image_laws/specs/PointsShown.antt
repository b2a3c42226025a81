-- When a machine is at the points of an image exactly where the program is at their items, and what it shows there.
use Rattle.std.specs.Prelude.{◌≡◌, ℕ, ◌<◌, List, Some, slice_get}
use Rattle.bril_tree.specs.declared.home.Home.{Home}
use Rattle.bril_tree.specs.declared.home.Home.TheVariants.{Reg, Frame}
use Rattle.bril_tree.specs.declared.limits.Limits.{Limits}
use Rattle.bril_tree.specs.declared.numbered.VarInfo.{VarInfo}
use Rattle.bril_tree.specs.declared.numbered_function.Func.{Func}
use Rattle.bril_tree.specs.declared.program.Prog.{Prog}
use Rattle.bril_tree.specs.declared.value.Value.{Value}
use Rattle.bril_tree.specs.Run.{FitMain, Suits, state_after}
use Rattle.bril_tree.specs.State as bril
use Rattle.bril_tree.specs.Typing.{variable_type}
use Rattle.bril_tree.specs.Value.{word_of}
use Rattle.rv64_image_laws.specs.Home.{IsAt}
use Rattle.rv64_image_laws.specs.Implements.{Implements, image_after}
use Rattle.rv64_words.specs.declared.image.Image.{Image}
use Rattle.rv64_words.specs.Region.{Sizes, sizes_of}
use Rattle.rv64_words.specs.State as rv64
use Rattle.rv64_words.specs.declared.points.HomeAt.{HomeAt}
use Rattle.rv64_words.specs.declared.points.PointAt.{PointAt}
use Rattle.rv64_words.specs.declared.points.Points.{Points}
use Rattle.rv64_words.specs.Points.{ArePointsIn, IsAtPoint}
use Rattle.rv64_image_laws.specs.ProgramPoints.{StopsAt}

-- the home is one of the machine's registers, or a word of the frame
abbrev pub IsHomeNamed : Home → Type 0
IsHomeNamed (Reg r) = r < 32
IsHomeNamed (Frame o) = Unit {0}

-- A variable of the frame has this type, and holds a value of it, whose word is at this home.
pub record HomeShows (z : Sizes) (vars : List VarInfo) (locations : bril.Locals) (t : rv64.State) (h : HomeAt) : Type 0 where
  pub typed : variable_type vars h.var ≡ Some h.ty
  pub value : Value
  pub holds : locations.vars h.var ≡ Some value
  pub suits : Suits value (Some h.ty)
  pub named : IsHomeNamed h.home
  pub at_home : IsAt z t h.home (word_of value)

-- The program's newest frame stands at the point's item, its variables are where the point says, and the two have printed the same.
pub record PointShows (image : Image) (p : Prog) (limits : Limits) (s : bril.State) (t : rv64.State) (at : PointAt) : Type 0 where
  pub stops : StopsAt p s at.func at.item
  pub func : Func
  pub is_function : slice_get p.funcs at.func ≡ Some func
  pub homes : (k : ℕ) (h : HomeAt) → slice_get at.homes k ≡ Some h → HomeShows (sizes_of image limits.cells) func.vars stops.stands.frame.locations t h
  pub printed : s.printed ≡ t.printed

-- With these arguments the machine is at a point exactly where the program is at an item at which a monitor stops, in order.
pub record ShowsRun (image : Image) (points : Points) (p : Prog) (limits : Limits) (args : List Value) : Type 0 where
  -- how many words the machine has executed where the program has made n steps
  pub count : ℕ → ℕ
  -- where the program is at such an item, the machine is then at a point, which shows it
  pub there : (n f i : ℕ) → StopsAt p (state_after p limits args n) f i →
      (at : PointAt) × IsAtPoint points (image_after image limits args (count n)) at × PointShows image p limits (state_after p limits args n) (image_after image limits args (count n)) at
  -- a later one is met after more words
  pub rising : (n m f i g j : ℕ) → n < m → StopsAt p (state_after p limits args n) f i → StopsAt p (state_after p limits args m) g j → count n < count m
  -- and at no other moment is the machine at a point
  pub only : (m : ℕ) (at : PointAt) → IsAtPoint points (image_after image limits args m) at → (n : ℕ) × (count n ≡ m) × StopsAt p (state_after p limits args n) at.func at.item

-- The image does what the program does, and its machine is at the points exactly where the program is at their items.
pub record Shows (image : Image) (points : Points) (p : Prog) (limits : Limits) : Type 0 where
  pub implements : Implements image p limits
  pub points_in : ArePointsIn image points
  pub runs : (args : List Value) → FitMain p args → ShowsRun image points p limits args
