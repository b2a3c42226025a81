-- Where a monitor stops, by the machine's states alone, and what the program is doing there.
use Rattle.std.specs.Prelude.{◌≡◌, ℕ, ◌+◌, ◌*◌, ◌<◌, ◌≤◌, Bool, true, List, Option, Some, None, nat_lt, ◌==◌, if◌then◌else◌}
use Rattle.std.specs.List.{find}
use Rattle.bril_tree.specs.declared.home.Home.{Home}
use Rattle.bril_tree.specs.declared.home.Home.TheVariants.{Reg, Frame}
use Rattle.bril_tree.specs.declared.limits.Limits.{Limits}
use Rattle.bril_tree.specs.declared.program.Prog.{Prog}
use Rattle.bril_tree.specs.declared.types.Ty.{Ty}
use Rattle.bril_tree.specs.declared.value.Value.{Value}
use Rattle.bril_tree.specs.Run.{Suits, state_after}
use Rattle.bril_tree.specs.State as bril
use Rattle.bril_tree.specs.Value.{word_of}
use Rattle.simulation.specs.System.{IsFinal}
use Rattle.rv64_image_laws.specs.Implements.{image_after}
use Rattle.rv64_words.specs.declared.image.Image.{Image}
use Rattle.rv64_words.specs.Region.{Sizes, sizes_of}
use Rattle.rv64_words.specs.StackWords.{stack_word_at}
use Rattle.rv64_words.specs.State as rv64
use Rattle.rv64_words.specs.declared.points.HomeAt.{HomeAt}
use Rattle.rv64_words.specs.declared.points.PointAt.{PointAt}
use Rattle.rv64_words.specs.declared.points.Points.{Points}
use Rattle.rv64_words.specs.Points.{ArePointsIn, IsAtPoint}
use Rattle.rv64_image_laws.specs.ProgramPoints.{StopsAt}
use Rattle.rv64_image_laws.specs.PointsShown.{PointShows, ShowsRun}

-- ---- the machine

module _ (image : Image) (points : Points) (limits : Limits) (args : List Value) (chosen : ℕ → ℕ → Bool) where
  -- after m words the machine is at this point, whose function and item are chosen: all are for a step, the marked ones for a go
  pub record IsChosenAt (m : ℕ) (at : PointAt) : Type 0 where
    pub is : IsAtPoint points (image_after image limits args m) at
    pub by : chosen at.func at.item ≡ true

  -- from so many words on, and before another number of them, it is at none
  abbrev pub NoneChosen : ℕ → ℕ → Type 0
  NoneChosen from to = (m : ℕ) (at : PointAt) → from ≤ m → m < to → IsChosenAt m at → ⊥

  -- m is the first number from one on after which it is at one, and it is this one
  pub record IsFirstChosen (from m : ℕ) (at : PointAt) : Type 0 where
    pub late : from ≤ m
    pub is : IsChosenAt m at
    pub none : NoneChosen from m

-- ---- the program

module _ (p : Prog) (limits : Limits) (args : List Value) (count : ℕ → ℕ) (chosen : ℕ → ℕ → Bool) where
  -- the program's n-th state is at a chosen item, which the machine, after so many words, has neither left nor stopped at
  pub record IsAhead (from n : ℕ) : Type 0 where
    pub func : ℕ
    pub item : ℕ
    pub stops : StopsAt p (state_after p limits args n) func item
    pub by : chosen func item ≡ true
    pub late : from ≤ count n

  -- and it is the first such state
  pub record IsLeastAhead (from n : ℕ) : Type 0 where
    pub is : IsAhead from n
    pub least : (k : ℕ) → IsAhead from k → n ≤ k

-- ---- values

-- the word at a home, where that names a register or a word of the stack
abbrev pub home_word : Sizes → rv64.State → Home → Option ℕ
home_word z t (Reg r) = if nat_lt r 32 then Some (t.registers r) else None
home_word z t (Frame o) = stack_word_at z t (t.registers 2 + 8 * o)

-- the value of a type whose word it is, and None exactly where there is none
abbrev pub IsValueOf : Ty → Option ℕ → Option Value → Type 0
IsValueOf ty None answer = answer ≡ None
IsValueOf ty (Some w) None = (v : Value) → Suits v (Some ty) → word_of v ≡ w → ⊥
IsValueOf ty (Some w) (Some v) = Suits v (Some ty) × (word_of v ≡ w)

-- what is answered for a variable, by its first entry
abbrev pub ShownBy : Sizes → rv64.State → Option HomeAt → Option Value → Type 0
ShownBy z t None answer = answer ≡ None
ShownBy z t (Some h) answer = IsValueOf h.ty (home_word z t h.home) answer

abbrev pub entry_of : ℕ → List HomeAt → Option HomeAt
entry_of x homes = find (λ h. h.var == x) homes

abbrev pub IsShownValue : Sizes → rv64.State → PointAt → ℕ → Option Value → Type 0
IsShownValue z t at x answer = ShownBy z t (entry_of x at.homes) answer

-- ---- laws

-- Where the machine is first at a chosen point, the program is at the first chosen item that lies ahead, and the point shows it.
abbrev pub FirstsAreLeast : Type 0
FirstsAreLeast = (image : Image) (points : Points) (p : Prog) (limits : Limits) (args : List Value) (chosen : ℕ → ℕ → Bool) (run : ShowsRun image points p limits args) (from m : ℕ) (at : PointAt) →
    ArePointsIn image points → IsFirstChosen image points limits args chosen from m at →
    (n : ℕ) × (run.count n ≡ m) × IsLeastAhead p limits args run.count chosen from n × PointShows image p limits (state_after p limits args n) (image_after image limits args m) at

-- Where it is at none, what lies ahead comes after those words; where it has stopped, nothing lies ahead.
abbrev pub NoneIsPassed : Type 0
NoneIsPassed = (image : Image) (points : Points) (p : Prog) (limits : Limits) (args : List Value) (chosen : ℕ → ℕ → Bool) (run : ShowsRun image points p limits args) (from to : ℕ) →
    NoneChosen image points limits args chosen from to → (n : ℕ) → IsAhead p limits args run.count chosen from n → to ≤ run.count n

abbrev pub NoneIsLeft : Type 0
NoneIsLeft = (image : Image) (points : Points) (p : Prog) (limits : Limits) (args : List Value) (chosen : ℕ → ℕ → Bool) (run : ShowsRun image points p limits args) (from m : ℕ) →
    NoneChosen image points limits args chosen from m → IsFinal (image_after image limits args m).stopped → (n : ℕ) → IsAhead p limits args run.count chosen from n → ⊥

-- At a point that shows the program's state, what is answered for a variable that has an entry is its value there.
abbrev pub ValuesAreShown : Type 0
ValuesAreShown = (image : Image) (p : Prog) (limits : Limits) (s : bril.State) (t : rv64.State) (at : PointAt) (shows : PointShows image p limits s t at) (x : ℕ) (h : HomeAt) (answer : Option Value) →
    entry_of x at.homes ≡ Some h → IsShownValue (sizes_of image limits.cells) t at x answer → answer ≡ shows.stops.stands.frame.locations.vars x
