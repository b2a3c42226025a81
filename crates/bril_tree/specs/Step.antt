-- One step of a program: the Bril documentation's core language with its memory extension, and this
-- project's `get`, `set`, `undef` and nested speculation.
use Rattle.std.specs.Prelude.{ℕ, suc, Bool, true, false, ◌&&◌, ◌==◌, nat_lt, List, [], ◌∷◌, ◌++◌, length, map, Option, Some, None, slice_get, slice_index, if◌then◌else◌, ℤ, pos}
use Rattle.bril_tree.specs.declared.limits.End.{End}
use Rattle.bril_tree.specs.declared.limits.End.TheVariants.{Ended, Faulted}
use Rattle.bril_tree.specs.declared.limits.Fault.{Fault}
use Rattle.bril_tree.specs.declared.limits.Fault.TheVariants as fault
use Rattle.bril_tree.specs.declared.limits.Limits.{Limits}
use Rattle.bril_tree.specs.declared.numbered.Instr.{Instr}
use Rattle.bril_tree.specs.declared.numbered.Instr.TheVariants.{Label, Const, Act}
use Rattle.bril_tree.specs.declared.numbered_function.Func.{Func}
use Rattle.bril_tree.specs.declared.operation.Op.{Op}
use Rattle.bril_tree.specs.declared.operation.Op.TheVariants as op
use Rattle.bril_tree.specs.declared.program.Prog.{Prog}
use Rattle.bril_tree.specs.declared.value.Value.{Value}
use Rattle.bril_tree.specs.declared.value.Value.TheVariants.{Ptr}
use Rattle.bril_tree.specs.State.{Values, no_values, with_value, read, counted, Locals, Frame, State}
use Rattle.bril_tree.specs.Memory.{is_live_any, live_block, cell_at, held, changed_block, allocation_fault, cells_of, new_block, ended_block, is_freeable}
use Rattle.bril_tree.specs.Operand.{dest_of}
use Rattle.bril_tree.specs.Outcome.{Outcome, Yields, FaultsWith, HasEffect, outcome_of, argument, int_of, bool_of, block_of, offset_of}
use Rattle.bril_tree.specs.Value.{shown}

-- the items of a function; none where the program lacks it
abbrev pub items_of : Option Func → List Instr
items_of None = []
items_of (Some f) = f.code

abbrev pub code_of : Prog → ℕ → List Instr
code_of p f = items_of (slice_get p.funcs f)

-- the item at a point of a function, None at its end
abbrev pub item_at : Prog → ℕ → ℕ → Option Instr
item_at p f point = slice_get (code_of p f) point

-- the item is this label
abbrev pub is_label : ℕ → Instr → Bool
is_label l (Label m) = m == l
is_label l (Const dest ty value) = false
is_label l (Act dest ty operation args funcs labels) = false

-- the point of a label, found by searching the items; the end where there is none
abbrev pub point_of : ℕ → List Instr → ℕ
point_of l [] = 0
point_of l (item ∷ items) = if is_label l item then 0 else suc (point_of l items)

-- ---- changes of the newest frame

abbrev pub at_point : ℕ → Frame → Frame
at_point point f = record f { point = point }

abbrev pub advanced : Frame → Frame
advanced f = record f { point = suc f.point }

abbrev pub with_locations : Locals → Frame → Frame
with_locations locations f = record f { locations = locations }

-- the variable, where there is one, has the value
abbrev pub assigned : Option ℕ → Value → Locals → Locals
assigned None v locations = locations
assigned (Some x) v locations = record locations { vars = with_value locations.vars x v }

abbrev pub shadowed : ℕ → Value → Locals → Locals
shadowed x v locations = record locations { shadows = with_value locations.shadows x v }

-- ---- changes of the state

abbrev pub with_frames : List Frame → State → State
with_frames frames s = record s { frames = frames }

-- a fault changes how the run ended alone
abbrev pub faulted : Fault → State → State
faulted kind s = record s { ended = Some (Faulted kind) }

-- ---- calls, lines and saves

-- the arguments of a call as the variables of the new frame
abbrev pub arguments_from : ℕ → List Value → Values → Values
arguments_from x [] values = values
arguments_from x (v ∷ vs) values = arguments_from (suc x) vs (with_value values x v)

abbrev pub new_frame : ℕ → List Value → Frame
new_frame f args = record {
  function = f;
  point = 0;
  locations = record { vars = arguments_from 0 args no_values; shadows = no_values };
  saves = [];
}

-- the values of arguments, with one space between two, and LF
abbrev pub line_of : List Value → List ℕ
line_of [] = 10 ∷ []
line_of (v ∷ []) = shown v ++ 10 ∷ []
line_of (v ∷ w ∷ vs) = shown v ++ 32 ∷ line_of (w ∷ vs)

-- the locations of the newest save
abbrev pub saved : List Locals → Locals → Locals
saved [] locations = locations
saved (newest ∷ saves) locations = newest

-- the newest save is dropped
abbrev pub dropped : List Locals → List Locals
dropped [] = []
dropped (newest ∷ saves) = saves

-- ---- one step

module _ (p : Prog) (limits : Limits) where
  -- the newest frame f, over the older frames, becomes g
  abbrev pub goes_on : Frame → List Frame → State → State
  goes_on g older s = with_frames (g ∷ older) s

  -- a value for the destination, and the next point
  abbrev pub gives : Option ℕ → Value → Frame → List Frame → State → State
  gives dest v f older s = goes_on (advanced (with_locations (assigned dest v f.locations) f)) older s

  -- the next point alone
  abbrev pub advances : Frame → List Frame → State → State
  advances f older s = goes_on (advanced f) older s

  -- the point of a label of the frame's function
  abbrev pub jumps : ℕ → Frame → List Frame → State → State
  jumps l f older s = goes_on (at_point (point_of l (code_of p f.function)) f) older s

  -- the first frame ends with a live block, or without
  abbrev pub ends : Bool → State → State
  ends true s = faulted fault.Leak s
  ends false s = record s { ended = Some Ended }

  -- the destination of the call at which a frame stands
  abbrev pub awaited : Option Instr → Option ℕ
  awaited None = None
  awaited (Some item) = dest_of item

  -- the newest frame is popped; the caller's destination gets the value, and it goes to the point after its call
  abbrev pub returns : Value → List Frame → State → State
  returns v [] s = ends (is_live_any s.blocks) s
  returns v (caller ∷ older) s = gives (awaited (item_at p caller.function caller.point)) v caller older s

  -- a frame more, where the limit allows it; the caller stays at its call
  abbrev pub calls : ℕ → List Value → Frame → List Frame → State → State
  calls g args f older s =
      if nat_lt (suc (length older)) limits.frames then with_frames (new_frame g args ∷ f ∷ older) s
      else faulted fault.Frames s

  abbrev pub prints : List Value → Frame → List Frame → State → State
  prints vs f older s = advances f older (record s { printed = s.printed ++ line_of vs })

  -- a block of so many cells
  abbrev pub allocates : Option Fault → ℤ → Option ℕ → Frame → List Frame → State → State
  allocates (Some kind) count dest f older s = faulted kind s
  allocates None count dest f older s =
      gives dest (Ptr (suc (length s.blocks)) (pos 0)) f older (record s { blocks = s.blocks ++ new_block (cells_of count) ∷ [] })

  abbrev pub frees : Value → Frame → List Frame → State → State
  frees pointer f older s =
      if is_freeable (live_block s.blocks (block_of pointer)) (offset_of pointer) then
      advances f older (record s { blocks = changed_block s.blocks (block_of pointer) (λ b. ended_block) })
      else faulted fault.BadFree s

  abbrev pub stores : Option ℕ → Value → Value → Frame → List Frame → State → State
  stores None pointer v f older s = faulted fault.Access s
  stores (Some n) pointer v f older s =
      advances f older (record s { blocks = changed_block s.blocks (block_of pointer) (λ b. record b { cells = with_value b.cells n v }) })

  abbrev pub loads_held : Option Value → Option ℕ → Frame → List Frame → State → State
  loads_held None dest f older s = faulted fault.Uninit s
  loads_held (Some v) dest f older s = gives dest v f older s

  abbrev pub loads : Option ℕ → Value → Option ℕ → Frame → List Frame → State → State
  loads None pointer dest f older s = faulted fault.Access s
  loads (Some n) pointer dest f older s = loads_held (held s.blocks pointer n) dest f older s

  -- the locations as they are become the newest save
  abbrev pub speculates : Frame → List Frame → State → State
  speculates f older s = advances (record f { saves = f.locations ∷ f.saves }) older s

  abbrev pub commits : Frame → List Frame → State → State
  commits f older s = advances (record f { saves = dropped f.saves }) older s

  -- one failure more of the guard at which the frame stands
  abbrev pub with_failure : Frame → State → State
  with_failure f s =
      record s { failures = λ g i. if (g == f.function) && (i == f.point) then counted (s.failures g i) else s.failures g i }

  -- Nothing where the condition holds. Else the locations become those of the newest save, which is dropped, and
  -- the frame goes to the label; blocks and printed bytes stay.
  abbrev pub guards : Bool → ℕ → Frame → List Frame → State → State
  guards true l f older s = advances f older s
  guards false l f older s =
      jumps l (record f { locations = saved f.saves f.locations; saves = dropped f.saves }) older (with_failure f s)

  -- the operations that do more than compute
  abbrev pub acts : Op → Option ℕ → List ℕ → List ℕ → List ℕ → Frame → List Frame → State → State
  acts op.Jmp dest args funcs labels f older s = jumps (slice_index labels 0) f older s
  acts op.Br dest args funcs labels f older s =
      jumps (slice_index labels (if bool_of (argument f.locations args 0) then 0 else 1)) f older s
  acts op.Call dest args funcs labels f older s = calls (slice_index funcs 0) (map (read f.locations.vars) args) f older s
  acts op.Ret dest args funcs labels f older s = returns (argument f.locations args 0) older s
  acts op.Print dest args funcs labels f older s = prints (map (read f.locations.vars) args) f older s
  acts op.Alloc dest args funcs labels f older s =
      let count = int_of (argument f.locations args 0) in
      allocates (allocation_fault limits.cells s.blocks count) count dest f older s
  acts op.Free dest args funcs labels f older s = frees (argument f.locations args 0) f older s
  acts op.Store dest args funcs labels f older s =
      let pointer = argument f.locations args 0 in
      stores (cell_at s.blocks pointer) pointer (argument f.locations args 1) f older s
  acts op.Load dest args funcs labels f older s =
      let pointer = argument f.locations args 0 in
      loads (cell_at s.blocks pointer) pointer dest f older s
  acts op.Set dest args funcs labels f older s =
      advances (with_locations (shadowed (slice_index args 0) (argument f.locations args 1) f.locations) f) older s
  acts op.Speculate dest args funcs labels f older s = speculates f older s
  acts op.Commit dest args funcs labels f older s = commits f older s
  acts op.Guard dest args funcs labels f older s =
      guards (bool_of (argument f.locations args 0)) (slice_index labels 0) f older s
  acts _ dest args funcs labels f older s = advances f older s

  abbrev pub acts_at : Instr → Frame → List Frame → State → State
  acts_at (Label l) f older s = advances f older s
  acts_at (Const dest ty value) f older s = advances f older s
  acts_at (Act dest ty operation args funcs labels) f older s = acts operation dest args funcs labels f older s

  -- one row for all that computes: the destination gets the value, or the run faults
  abbrev pub by_outcome : Outcome → Instr → Frame → List Frame → State → State
  by_outcome (Yields v) item f older s = gives (dest_of item) v f older s
  by_outcome (FaultsWith kind) item f older s = faulted kind s
  by_outcome HasEffect item f older s = acts_at item f older s

  -- the item of the newest frame; at the function's end it returns
  abbrev pub item_step : Option Instr → Frame → List Frame → State → State
  item_step None f older s = returns (read no_values 0) older s
  item_step (Some item) f older s = by_outcome (outcome_of item f.locations) item f older s

  abbrev pub frames_step : List Frame → State → State
  frames_step [] s = ends (is_live_any s.blocks) s
  frames_step (f ∷ older) s = item_step (item_at p f.function f.point) f older s

  abbrev pub running_step : Option End → State → State
  running_step None s = frames_step s.frames s
  running_step (Some how) s = s

  -- One step: a run that ended stays as it is, any other makes the step of its newest frame's item.
  abbrev pub step : State → State
  step s = running_step s.ended s
