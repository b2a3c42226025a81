-- What a state of a run shows of the paths through it.
use Rattle.std.specs.Prelude.{ℕ, Bool, false, List, Option, Some, None}
use Rattle.bril_tree.specs.declared.numbered.Instr.{Instr}
use Rattle.bril_tree.specs.declared.numbered.Instr.TheVariants.{Label, Const, Act}
use Rattle.bril_tree.specs.declared.operation.Op.{Op}
use Rattle.bril_tree.specs.declared.operation.Op.TheVariants as op
use Rattle.bril_tree.specs.declared.program.Prog.{Prog}
use Rattle.bril_tree.specs.Outcome.{argument, bool_of}
use Rattle.bril_tree.specs.State.{Frame, Locals, State}
use Rattle.bril_tree.specs.Step.{item_at}
use Rattle.bril_interpreter.specs.Interpreter.{newest_frame}
use Rattle.trace_recorder.specs.declared.arrival.Arrival.{Arrival}

-- The item at which the newest frame stands, where it stands, and which way a `br` there goes: true to its first label.
pub record Sight : Type 0 where
  pub function : ℕ
  pub point : ℕ
  pub item : Instr
  pub choice : Bool

abbrev pub operation_choice : Op → List ℕ → Locals → Bool
operation_choice op.Br args locations = bool_of (argument locations args 0)
operation_choice _ args locations = false

abbrev pub choice_at : Instr → Locals → Bool
choice_at (Label l) locations = false
choice_at (Const dest ty value) locations = false
choice_at (Act dest ty operation args funcs labels) locations = operation_choice operation args locations

abbrev pub sight_at : Frame → Option Instr → Option Sight
sight_at frame None = None
sight_at frame (Some item) = Some (record { function = frame.function; point = frame.point; item = item; choice = choice_at item frame.locations })

abbrev pub sight_in : Prog → Option Frame → Option Sight
sight_in P None = None
sight_in P (Some frame) = sight_at frame (item_at P frame.function frame.point)

-- none where the run has ended, or the newest frame stands at its function's end
abbrev pub sight : Prog → State → Option Sight
sight P s = sight_in P (newest_frame s)

-- a state whose newest frame stands at a label is an arrival at it
abbrev pub label_at : (function point : ℕ) → Instr → Option Arrival
label_at function point (Label l) = Some (record { func = function; label = l; point = point })
label_at function point (Const dest ty value) = None
label_at function point (Act dest ty operation args funcs labels) = None

abbrev pub arrival : Option Sight → Option Arrival
arrival None = None
arrival (Some s) = label_at s.function s.point s.item
