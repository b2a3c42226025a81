-- The relation between the states of a program and those of the machine that runs its image.
use Rattle.std.proofs.Common.{◌≡◌, ℕ, suc, ◌+◌, ◌*◌, ◌≤◌, Bool, true, List, [], ◌∷◌, length, Option, Some, None}
use Rattle.std.specs.Prelude.{if◌then◌else◌, slice_get}
use Rattle.std.specs.List.{Contains}
use Rattle.bril_tree.specs.declared.home.Home.{Home}
use Rattle.bril_tree.specs.declared.limits.End.{End}
use Rattle.bril_tree.specs.declared.value.Value.{Value}
use Rattle.bril_tree.specs.Assigned.{assigns_at}
use Rattle.bril_tree.specs.Live.{IsLive}
use Rattle.bril_tree.specs.Locals.{location_value}
use Rattle.bril_tree.specs.Operand.{Location}
use Rattle.bril_tree.specs.Run.{state_after}
use Rattle.bril_tree.specs.State as bril
use Rattle.bril_tree.specs.Step.{code_of}
use Rattle.placement_laws.specs.Holding.{FrameHolds}
use Rattle.placement_laws.specs.Homes.{slot_of}
pub use Rattle.rv64_words_laws.specs.blocks.Memory.{HasWord, BlockHolds, LiesIn, MemoryHolds}
use Rattle.rv64_emit_laws.specs.layout.Image.{end_start}
use Rattle.rv64_emit_laws.specs.layout.Homes.{level_word, slot_word}
use Rattle.rv64_emit_laws.specs.layout.Items.{return_word}
use Rattle.rv64_words_laws.specs.stretches.Core.{Core, machine}
use Rattle.rv64_words_laws.specs.sequences.Moves.{home_word}
use Rattle.rv64_words.specs.declared.image.GuardAt.{GuardAt}
use Rattle.rv64_words.specs.Region.{stack_base}
use Rattle.rv64_words.specs.State.{State, Finished}
use Rattle.slot_code.specs.declared.item.SlotItem.TheVariants.{Call}
use Rattle.slot_code.specs.declared.slots.SlotFunction.{SlotFunction}
use Rattle.slot_code.specs.Numbering.{slot_number}
use Rattle.rv64_emit_laws.specs.Homes.{home_at, saved_at}
use Rattle.rv64_emit_laws.proofs.Ready.{gives_back}
use Rattle.rv64_emit_laws.proofs.Setting.{Setting, entry_of, sizes, widest}

-- the word in which a speculation of a level keeps a location, and the location's own word, in the frame at word b of the stack
abbrev pub shadow_word : SlotFunction → ℕ → (ℕ → ℕ) → ℕ → Location → ℕ
shadow_word g b stack level x = stack (b + (level_word g level + slot_number g.shadow_numbers (slot_of x)))

abbrev pub own_word : SlotFunction → ℕ → (ℕ → ℕ) → Location → ℕ
own_word g b stack x = stack (b + slot_word g (slot_of x))

-- ---- frames

-- the way back of a frame at word b of the stack, while it is the newest one: a leaf has it in register 1
abbrev pub way_of : Bool → Core → ℕ → ℕ
way_of leaf c b = if leaf then c.registers 1 else c.stack b

-- A frame waits at a call of the function `above`, whose frame is at word `base` of the stack, where its own ends, and has the way
-- `back`. So many frames are older. What is live after the call, the call's destination apart, is in its own word of the frame,
-- where the call has put what is in registers.
pub record Waits (S : Setting) (made above base back depth : ℕ) (f : bril.Frame) (stack : ℕ → ℕ) : Type 0 where
  pub function : SlotFunction
  pub there : slice_get S.slots.funcs f.function ≡ Some function
  pub dest : Option ℕ
  pub args : List ℕ
  pub here : slice_get function.code f.point ≡ Some (Call dest above args)
  pub takes : (x : ℕ) → dest ≡ Some x → gives_back S.p above ≡ true
  pub alone : f.saves ≡ []
  pub below : ℕ
  pub ends : below + function.words ≡ base
  pub deep : below ≤ depth * widest S
  pub way : back ≡ 4 * return_word (S.homes f.function) function f.point (entry_of S f.function f.point) dest above args
  pub kept : (x : Location) (v : Value) → IsLive (code_of S.p f.function) x (suc f.point) → (Contains (assigns_at (slice_get (code_of S.p f.function) f.point)) x → ⊥) → location_value f.locations x ≡ Some v →
      HasWord made v (own_word function below stack x)

-- the frames that wait for one of the function `above` at word `base`, which has the way `back`; the program ends where the first
-- one returns
abbrev pub OlderHold : Setting → ℕ → ℕ → ℕ → ℕ → List bril.Frame → (ℕ → ℕ) → Type 0
OlderHold S made above base back [] stack = back ≡ 4 * end_start S.homes S.slots
OlderHold S made above base back (f ∷ older) stack =
    (w : Waits S made above base back (length older) f stack) × OlderHold S made f.function w.below (stack w.below) older stack

-- what homes and shadow words hold of a frame at a point
abbrev pub HoldsAt : Setting → ℕ → bril.Frame → ℕ → bril.Locals → List bril.Locals → (Home → ℕ) → (ℕ → Location → ℕ) → Type 0
HoldsAt S made f point locations saves word shadow = FrameHolds (code_of S.p f.function) (home_at (S.homes f.function)) (saved_at (S.homes f.function)) (HasWord made) point locations saves word shadow

-- The machine holds the frames: of the newest one what its point needs, each location at its home.
pub record FramesHold (S : Setting) (made : ℕ) (f : bril.Frame) (older : List bril.Frame) (c : Core) : Type 0 where
  pub function : SlotFunction
  pub there : slice_get S.slots.funcs f.function ≡ Some function
  pub base : ℕ
  pub at : c.registers 2 ≡ stack_base + 8 * base
  pub zero_is : c.registers 0 ≡ 0
  pub left : c.registers 8 + suc (length older) ≡ S.limits.frames
  pub deep : base ≤ length older * widest S
  pub holds : HoldsAt S made f f.point f.locations f.saves (home_word c base) (shadow_word function base c.stack)
  pub older_hold : OlderHold S made f.function base (way_of (S.homes f.function).leaf c base) older c.stack

-- ---- guards

-- the arrivals at each guard's word are the guard's failures
abbrev pub GuardsHold : List GuardAt → (ℕ → ℕ → ℕ) → (ℕ → ℕ) → Type 0
GuardsHold guards failures arrivals = (g : ℕ) (guard : GuardAt) → slice_get guards g ≡ Some guard → arrivals guard.word ≡ failures guard.func guard.item

-- ---- states

module _ (S : Setting) where
  -- Both run: the machine is before the words of the newest frame's item, and holds the frames and the blocks.
  pub record RunsAlike (s : bril.State) (t : State) : Type 0 where
    pub steps : ℕ
    pub is : s ≡ state_after S.p S.limits S.args steps
    pub frame : bril.Frame
    pub older : List bril.Frame
    pub frames : s.frames ≡ frame ∷ older
    pub running : s.ended ≡ None
    pub core : Core
    pub done : ℕ
    pub state : t ≡ machine (entry_of S frame.function frame.point) core done
    pub holds : FramesHold S (length s.blocks) frame older core
    pub memory : MemoryHolds (sizes S) s.blocks core.table core.cells core.blocks core.next_free
    pub guards : GuardsHold S.image.guards s.failures core.arrivals
    pub printed : s.printed ≡ core.printed

  -- both have ended, and alike
  pub record EndedAlike (s : bril.State) (t : State) : Type 0 where
    pub how : End
    pub ended : s.ended ≡ Some how
    pub stopped : t.stopped ≡ Some (Finished how)
    pub guards : GuardsHold S.image.guards s.failures t.arrivals
    pub printed : s.printed ≡ t.printed

  pub data Related : bril.State → State → Type 0 where
    run : {s : bril.State} {t : State} → RunsAlike s t → Related s t
    over : {s : bril.State} {t : State} → EndedAlike s t → Related s t
