-- What code over slots does: a step over the states of the program from which it was made.
use Rattle.std.specs.Prelude.{ℕ, Bool, true, false, List, [], ◌∷◌, map, Option, Some, None, slice_get, if◌then◌else◌}
use Rattle.simulation.specs.System.{after}
use Rattle.bril_tree.specs.declared.limits.End.{End}
use Rattle.bril_tree.specs.declared.limits.Limits.{Limits}
use Rattle.bril_tree.specs.declared.program.Prog.{Prog}
use Rattle.bril_tree.specs.declared.value.Value.{Value}
use Rattle.bril_tree.specs.Memory.{is_live_any, cell_at, allocation_fault}
use Rattle.bril_tree.specs.Operators.{binary_operation, unary_operation}
use Rattle.bril_tree.specs.Outcome.{Outcome, Yields, FaultsWith, HasEffect, computed, int_of, bool_of}
use Rattle.bril_tree.specs.Run.{first_state}
use Rattle.bril_tree.specs.State.{no_values, read, Locals, Frame, State}
use Rattle.bril_tree.specs.Step.{at_point, advanced, with_locations, assigned, shadowed, faulted, saved, dropped, goes_on, gives, advances, ends, calls, prints, allocates, frees, stores, loads, speculates, commits, with_failure}
use Rattle.slot_code.specs.declared.item.Printed.{Printed}
use Rattle.slot_code.specs.declared.item.Slot.{Slot}
use Rattle.slot_code.specs.declared.item.Slot.TheVariants.{Variable, Shadow}
use Rattle.slot_code.specs.declared.item.SlotItem.{SlotItem}
use Rattle.slot_code.specs.declared.item.SlotItem.TheVariants.{Pass, Constant, Copy, Unary, Binary, Jump, Branch, Call, Return, Print, Alloc, Free, Store, Load, Speculate, Commit, Guard}
use Rattle.slot_code.specs.declared.slots.SlotFunction.{SlotFunction}
use Rattle.slot_code.specs.declared.slots.Slots.{Slots}

-- ---- slots

-- what a slot of a frame holds
abbrev pub read_slot : Locals → Slot → Value
read_slot locations (Variable x) = read locations.vars x
read_slot locations (Shadow x) = read locations.shadows x

-- the slot gets a value
abbrev pub with_slot : Slot → Value → Locals → Locals
with_slot (Variable x) v locations = assigned (Some x) v locations
with_slot (Shadow x) v locations = shadowed x v locations

-- what a `ret` gives: without a value what variable 0 holds, which no caller of an accepted program takes
abbrev pub read_returned : Locals → Option ℕ → Value
read_returned locations None = read locations.vars 0
read_returned locations (Some x) = read locations.vars x

abbrev pub read_printed : Locals → Printed → Value
read_printed locations printed = read locations.vars printed.variable

-- ---- items

-- the items of a function; none where the program lacks it
abbrev pub slot_items_of : Option SlotFunction → List SlotItem
slot_items_of None = []
slot_items_of (Some f) = f.code

-- the item at a point of a function, None at its end
abbrev pub slot_item_at : Slots → ℕ → ℕ → Option SlotItem
slot_item_at slots f point = slice_get (slot_items_of (slice_get slots.funcs f)) point

-- the variable that a slot is, where it is one
abbrev pub variable_in : Slot → Option ℕ
variable_in (Variable x) = Some x
variable_in (Shadow x) = None

-- the variable that an item assigns, where it assigns one
abbrev pub slot_dest_of : SlotItem → Option ℕ
slot_dest_of Pass = None
slot_dest_of (Constant dest value) = Some dest
slot_dest_of (Copy dest from) = variable_in dest
slot_dest_of (Unary operation dest operand) = Some dest
slot_dest_of (Binary operation dest first second) = Some dest
slot_dest_of (Jump to) = None
slot_dest_of (Branch condition then_to else_to) = None
slot_dest_of (Call dest function args) = dest
slot_dest_of (Return value) = None
slot_dest_of (Print args) = None
slot_dest_of (Alloc dest count) = Some dest
slot_dest_of (Free pointer) = None
slot_dest_of (Store pointer value) = None
slot_dest_of (Load dest pointer) = Some dest
slot_dest_of Speculate = None
slot_dest_of Commit = None
slot_dest_of (Guard condition abort_to) = None

-- the destination of the call at which a frame stands
abbrev pub slot_awaited : Option SlotItem → Option ℕ
slot_awaited None = None
slot_awaited (Some item) = slot_dest_of item

-- ---- one step

-- The rows of the semantics that read no code serve here too. They stand below a program there; none that is used here
-- reads it, so that a step depends on the slots alone.
module _ (p : Prog) (slots : Slots) (limits : Limits) where
  -- a value for a slot, and the next point
  abbrev pub fills : Slot → Value → Frame → List Frame → State → State
  fills dest v f older s = goes_on p limits (advanced (with_locations (with_slot dest v f.locations) f)) older s

  -- the frame goes to a point
  abbrev pub goes_to : ℕ → Frame → List Frame → State → State
  goes_to point f older s = goes_on p limits (at_point point f) older s

  -- the variable gets what is computed, or the run faults
  abbrev pub computes : Outcome → ℕ → Frame → List Frame → State → State
  computes (Yields v) dest f older s = fills (Variable dest) v f older s
  computes (FaultsWith kind) dest f older s = faulted kind s
  computes HasEffect dest f older s = advances p limits f older s

  -- the newest frame is popped; the caller's destination gets the value, and it goes to the point after its call
  abbrev pub slot_returns : Value → List Frame → State → State
  slot_returns v [] s = ends p limits (is_live_any s.blocks) s
  slot_returns v (caller ∷ older) s = gives p limits (slot_awaited (slot_item_at slots caller.function caller.point)) v caller older s

  -- Nothing where the condition holds. Else the locations become those of the newest save, which is dropped, and the
  -- frame goes to the point.
  abbrev pub slot_guards : Bool → ℕ → Frame → List Frame → State → State
  slot_guards true to f older s = advances p limits f older s
  slot_guards false to f older s =
      goes_to to (record f { locations = saved f.saves f.locations; saves = dropped f.saves }) older (with_failure p limits f s)

  abbrev pub slot_item_step : SlotItem → Frame → List Frame → State → State
  slot_item_step Pass f older s = advances p limits f older s
  slot_item_step (Constant dest value) f older s = fills (Variable dest) value f older s
  slot_item_step (Copy dest from) f older s = fills dest (read_slot f.locations from) f older s
  slot_item_step (Unary operation dest operand) f older s =
      let v = read f.locations.vars operand in
      computes (computed (unary_operation operation) None v v) dest f older s
  slot_item_step (Binary operation dest first second) f older s =
      computes (computed (binary_operation operation) None (read f.locations.vars first) (read f.locations.vars second)) dest f older s
  slot_item_step (Jump to) f older s = goes_to to f older s
  slot_item_step (Branch condition then_to else_to) f older s =
      goes_to (if bool_of (read f.locations.vars condition) then then_to else else_to) f older s
  slot_item_step (Call dest function args) f older s = calls p limits function (map (read f.locations.vars) args) f older s
  slot_item_step (Return value) f older s = slot_returns (read_returned f.locations value) older s
  slot_item_step (Print args) f older s = prints p limits (map (read_printed f.locations) args) f older s
  slot_item_step (Alloc dest count) f older s =
      let cells = int_of (read f.locations.vars count) in
      allocates p limits (allocation_fault limits.cells s.blocks cells) cells (Some dest) f older s
  slot_item_step (Free pointer) f older s = frees p limits (read f.locations.vars pointer) f older s
  slot_item_step (Store pointer value) f older s =
      let at = read f.locations.vars pointer in
      stores p limits (cell_at s.blocks at) at (read f.locations.vars value) f older s
  slot_item_step (Load dest pointer) f older s =
      let at = read f.locations.vars pointer in
      loads p limits (cell_at s.blocks at) at (Some dest) f older s
  slot_item_step Speculate f older s = speculates p limits f older s
  slot_item_step Commit f older s = commits p limits f older s
  slot_item_step (Guard condition abort_to) f older s = slot_guards (bool_of (read f.locations.vars condition)) abort_to f older s

  -- the item of the newest frame; at the function's end it returns
  abbrev pub slot_point_step : Option SlotItem → Frame → List Frame → State → State
  slot_point_step None f older s = slot_returns (read no_values 0) older s
  slot_point_step (Some item) f older s = slot_item_step item f older s

  abbrev pub slot_frames_step : List Frame → State → State
  slot_frames_step [] s = ends p limits (is_live_any s.blocks) s
  slot_frames_step (f ∷ older) s = slot_point_step (slot_item_at slots f.function f.point) f older s

  abbrev pub slot_running_step : Option End → State → State
  slot_running_step None s = slot_frames_step s.frames s
  slot_running_step (Some how) s = s

  -- One step: a run that ended stays as it is, any other makes the step of its newest frame's item.
  abbrev pub slot_step : State → State
  slot_step s = slot_running_step s.ended s

  -- the state after n steps, from the first one with these arguments
  abbrev pub slot_state_after : List Value → ℕ → State
  slot_state_after args n = after slot_step n (first_state p limits args)
