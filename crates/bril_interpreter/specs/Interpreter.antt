-- What contracts see of an interpreter.
use Rattle.std.specs.Prelude.{ℕ, ◌≡◌, ◌-◌, ◌^◌, min, Bool, List, [], ◌∷◌, length, map, Option, Some, None, slice_index, slice_index_or}
use Rattle.std.specs.List.{AllByRecursion}
use Rattle.bril_tree.specs.declared.limits.End.{End}
use Rattle.bril_tree.specs.declared.limits.Limits.{Limits}
use Rattle.bril_tree.specs.declared.program.Prog.{Prog}
use Rattle.bril_tree.specs.declared.value.Value.{Value}
use Rattle.bril_tree.specs.Size.{IsCounted}
use Rattle.bril_tree.specs.State.{Frame, State}
use Rattle.bril_checker.specs.Checked.{CheckedView}
use Rattle.bril_heap.specs.Heap.{CellsView, blocks_of}
use Rattle.bril_interpreter.specs.declared.answer.Here.{Here}
use Rattle.bril_interpreter.specs.Frames.{FrameView, frame_of, IsFrame, IsCaller}
use Rattle.bril_interpreter.specs.Tables.{TableView, AreTables}

-- What an interpreter holds: its program and limits, the newest frame and the older ones, the newest first, the blocks
-- of memory, how the run ended, None while it runs, how often each guard failed, by function and item, and whether a
-- write failed.
pub record InterpView : Type 0 where
  pub checked : CheckedView
  pub limits : Limits
  pub newest : FrameView
  pub older : List FrameView
  pub cells : CellsView
  pub ended : Option End
  pub failures : List (List ℕ)
  pub has_failed : Bool

-- what the program and the limits of an interpreter make of a rule
abbrev pub under : {A : Type 0} → InterpView → (Prog → Limits → A) → A
under i rule = rule i.checked.prog i.limits

-- a count by function and item, 0 where there is none
abbrev pub count_at : List (List ℕ) → ℕ → ℕ → ℕ
count_at counts function item = slice_index (slice_index_or counts function []) item

-- The state of the semantics without its printed bytes: an interpreter doesn't hold them.
abbrev pub state_of : InterpView → State
state_of i = record {
  frames = frame_of i.newest ∷ map frame_of i.older;
  blocks = blocks_of i.cells;
  printed = [];
  ended = i.ended;
  failures = count_at i.failures;
}

-- what an interpreter keeps: its program fits, its frames and its tables are those of its program, and its memory has its limit
pub record IsInterp (p : Prog) (limits : Limits) (newest : FrameView) (older : List FrameView) (cells : CellsView) (tables : List TableView) : Type 0 where
  pub counted : IsCounted p
  pub frame : IsFrame p newest
  pub callers : AllByRecursion (IsCaller p) older
  pub functions : AreTables p.funcs tables
  pub memory : cells.limit ≡ limits.cells

-- ---- what a state tells

-- the newest frame of a run that hasn't ended
abbrev pub running_frame : Option End → List Frame → Option Frame
running_frame None [] = None
running_frame None (f ∷ older) = Some f
running_frame (Some how) frames = None

abbrev pub newest_frame : State → Option Frame
newest_frame s = running_frame s.ended s.frames

-- where a frame stands, and how many saves it has, a number that stays at the greatest of 32 bits
abbrev pub place_in : Frame → Here
place_in f = record { func = f.function; item = f.point; depth = min (length f.saves) (2 ^ 32 - 1) }

-- a variable of a frame
abbrev pub value_in : ℕ → Option Frame → Option Value
value_in x None = None
value_in x (Some f) = f.locations.vars x
