-- When an image does what a program does.
use Rattle.std.specs.Prelude.{◌≡◌, ◌⊎◌, ℕ, ◌+◌, ◌*◌, ◌<◌, ◌≤◌, Bool, true, false, List, ◌∷◌, length, Option, Some, None, IsTrue, slice_get}
use Rattle.std.specs.Option.{option_map}
use Rattle.simulation.specs.System.{System, after, IsFinal, IsPrefix, Agree}
use Rattle.bril_tree.specs.declared.limits.Limits.{Limits}
use Rattle.bril_tree.specs.declared.numbered.Instr.{Instr}
use Rattle.bril_tree.specs.declared.numbered.Instr.TheVariants.{Label, Const, Act}
use Rattle.bril_tree.specs.declared.numbered_function.Func.{Func}
use Rattle.bril_tree.specs.declared.operation.Op.{Op}
use Rattle.bril_tree.specs.declared.operation.Op.TheVariants as op
use Rattle.bril_tree.specs.declared.program.Prog.{Prog}
use Rattle.bril_tree.specs.declared.value.Value.{Value}
use Rattle.program_numbers.specs.Cost.{IsCost}
use Rattle.bril_tree.specs.FrameWords.{AreFrameWords, frame_head}
use Rattle.bril_tree.specs.Live.{IsLive}
use Rattle.bril_tree.specs.Locals.{location_value}
use Rattle.bril_tree.specs.Operand.{Location}
use Rattle.bril_tree.specs.Run.{FitMain, state_after}
use Rattle.bril_tree.specs.State as bril
use Rattle.bril_tree.specs.Step.{step, item_at}
use Rattle.bril_tree.specs.Value.{word_of}
use Rattle.rv64_words.specs.declared.image.GuardAt.{GuardAt}
use Rattle.rv64_words.specs.declared.image.Image.{Image}
use Rattle.rv64_words.specs.Machine.{machine_step}
use Rattle.rv64_words.specs.Region.{sizes_of}
use Rattle.rv64_words.specs.State as rv64
use Rattle.bril_tree.specs.declared.home.Home.{Home}
use Rattle.rv64_image_laws.specs.Home.{IsAt, IsHomeWithin, IsLocationOf}

-- ---- the two systems

-- a program as a system whose ends are those of the machine
abbrev pub program_system : Prog → Limits → System rv64.Stop bril.State
program_system p limits = record {
  step = step p limits;
  ending = λ s. option_map rv64.Finished s.ended;
  printed = λ s. s.printed;
}

-- an image on the machine, under a limit of cells
abbrev pub image_system : Image → Limits → System rv64.Stop rv64.State
image_system image limits = record {
  step = machine_step image (sizes_of image limits.cells);
  ending = λ t. t.stopped;
  printed = λ t. t.printed;
}

-- the machine's state after m words of an image, with these arguments
abbrev pub image_after : Image → Limits → List Value → ℕ → rv64.State
image_after image limits args m = after (machine_step image (sizes_of image limits.cells)) m (rv64.start args)

-- ---- guards

abbrev pub is_guard_operation : Op → Bool
is_guard_operation op.Guard = true
is_guard_operation _ = false

abbrev pub is_guard : Option Instr → Bool
is_guard None = false
is_guard (Some (Label l)) = false
is_guard (Some (Const dest ty value)) = false
is_guard (Some (Act dest ty operation args funcs labels)) = is_guard_operation operation

-- the place of a guard is before that of another: in an earlier function, or in one function at an earlier item
abbrev pub IsBefore : GuardAt → GuardAt → Type 0
IsBefore a b = (a.func < b.func) ⊎ ((a.func ≡ b.func) × (a.item < b.item))

-- Each entry of the list is that of a guard of the program, and each guard, also one that no walk reaches, has an entry. They are
-- in the order of their functions and items, so no guard has two.
pub record ListsGuards (guards : List GuardAt) (p : Prog) : Type 0 where
  pub are : (g : ℕ) (guard : GuardAt) → slice_get guards g ≡ Some guard → IsTrue (is_guard (item_at p guard.func guard.item))
  pub each : (f i : ℕ) → IsTrue (is_guard (item_at p f i)) → (g : ℕ) × (guard : GuardAt) × (slice_get guards g ≡ Some guard) × (guard.func ≡ f) × (guard.item ≡ i)
  pub in_order : (g h : ℕ) (a b : GuardAt) → g < h → slice_get guards g ≡ Some a → slice_get guards h ≡ Some b → IsBefore a b

-- The arrivals at each guard's word are the guard's failures.
abbrev pub CountsFailures : List GuardAt → bril.State → rv64.State → Type 0
CountsFailures guards s t = (g : ℕ) (guard : GuardAt) → slice_get guards g ≡ Some guard → t.arrivals guard.word ≡ s.failures guard.func guard.item

-- ---- homes

-- The home of each location of a function is a register, or a word of the function's frame.
abbrev pub AreHomesWithin : (ℕ → Location → Home) → Prog → Type 0
AreHomesWithin homes p = (k : ℕ) (f : Func) (words : ℕ) (location : Location) →
    slice_get p.funcs k ≡ Some f → AreFrameWords f words → IsLocationOf f location → IsHomeWithin words (homes k location)

-- While the program runs, each location of the newest frame that is live at its point, and holds a value, has the value's
-- word at its home.
abbrev pub ShowsLive : (ℕ → Location → Home) → Image → Prog → Limits → bril.State → rv64.State → Type 0
ShowsLive homes image p limits s t =
    (frame : bril.Frame) (older : List bril.Frame) (func : Func) (location : Location) (value : Value) →
    s.frames ≡ frame ∷ older → s.ended ≡ None → slice_get p.funcs frame.function ≡ Some func → IsLive func.code location frame.point →
    location_value frame.locations location ≡ Some value → IsAt (sizes_of image limits.cells) t (homes frame.function location) (word_of value)

-- ---- images

-- The image does what the program does with these arguments, the locations of each function at these homes.
pub record ImplementsRun (homes : ℕ → Location → Home) (image : Image) (p : Prog) (limits : Limits) (args : List Value) : Type 0 where
  -- the stack has room for the two words that a frame begins with and the arguments
  pub room : length args + frame_head ≤ image.stack
  -- how many words the machine has executed when the program has made n steps: at most the cost of a step for each, and as
  -- many to begin
  pub count : ℕ → ℕ
  pub cost : ℕ
  pub is_cost : IsCost p cost
  pub bounded : (n : ℕ) → count n ≤ cost * (n + 1)
  pub rising : (n m : ℕ) → n ≤ m → count n ≤ count m
  -- then the two have printed the same and ended alike, or both run; live locations are at their homes, and the guards have
  -- failed as often as their words were executed
  pub agrees : (n : ℕ) → Agree (program_system p limits) (image_system image limits) (state_after p limits args n) (image_after image limits args (count n))
  pub shows : (n : ℕ) → ShowsLive homes image p limits (state_after p limits args n) (image_after image limits args (count n))
  pub fails : (n : ℕ) → CountsFailures image.guards (state_after p limits args n) (image_after image limits args (count n))
  -- where the machine stops, the program ends alike; a trap is no end of a program, so none comes
  pub ends_only : (m : ℕ) → IsFinal (image_after image limits args m).stopped →
      (n : ℕ) × Agree (program_system p limits) (image_system image limits) (state_after p limits args n) (image_after image limits args m)
  -- the machine prints nothing that the program doesn't print
  pub prints_only : (m : ℕ) → (n : ℕ) × IsPrefix (image_after image limits args m).printed (state_after p limits args n).printed

-- The image does what the program does, with all arguments that fit and with the locations at these homes.
pub record ImplementsAt (homes : ℕ → Location → Home) (image : Image) (p : Prog) (limits : Limits) : Type 0 where
  pub guards : ListsGuards image.guards p
  pub within : AreHomesWithin homes p
  pub runs : (args : List Value) → FitMain p args → ImplementsRun homes image p limits args

-- The image does what the program does: with all arguments that fit it prints the same and ends alike, and never traps.
-- The homes of each function's locations are the same for all arguments.
pub record Implements (image : Image) (p : Prog) (limits : Limits) : Type 0 where
  pub homes : ℕ → Location → Home
  pub implements : ImplementsAt homes image p limits
