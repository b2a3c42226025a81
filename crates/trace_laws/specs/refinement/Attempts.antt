-- What an attempt of a trace does to the state until its `commit`: it prints nothing, changes no block and no caller, and a guard that
-- fails gives back what was there before.
use Rattle.std.specs.Prelude.{◌≡◌, ℕ, suc, ◌+◌, ◌≤◌, ◌⊎◌, false, List, [], ◌∷◌, Option, Some, None, slice_get}
use Rattle.std.specs.List.{AllZip}
use Rattle.simulation.specs.System.{after}
use Rattle.bril_tree.specs.declared.limits.End.TheVariants.{Faulted}
use Rattle.bril_tree.specs.declared.limits.Fault.{Fault}
use Rattle.bril_tree.specs.declared.limits.Limits.{Limits}
use Rattle.bril_tree.specs.declared.numbered.Instr.{Instr}
use Rattle.bril_tree.specs.declared.numbered.Instr.TheVariants.{Act}
use Rattle.bril_tree.specs.declared.operation.Op.TheVariants as op
use Rattle.bril_tree.specs.declared.program.Prog.{Prog}
use Rattle.bril_tree.specs.Numbered.{names_in}
use Rattle.bril_tree.specs.Outcome.{argument, bool_of}
use Rattle.bril_tree.specs.State.{Frame, Locals, State}
use Rattle.bril_tree.specs.Step.{item_at, step}
use Rattle.pass_edit_laws.specs.names.Named.{SameLocation}
use Rattle.pass_edit_laws.specs.plan.Plan.{ValuesMatch}

-- ---- states

-- The run goes on, in this frame, over these older ones.
pub record RunsIn (newest : Frame) (older : List Frame) (s : State) : Type 0 where
  pub frames : s.frames ≡ newest ∷ older
  pub ended : s.ended ≡ None

-- The blocks are the same, and so is what was printed.
pub record SameEffects (s t : State) : Type 0 where
  pub blocks : s.blocks ≡ t.blocks
  pub printed : s.printed ≡ t.printed

-- the item is a `guard`, and its condition doesn't hold
abbrev pub IsFailing : Option Instr → Locals → Type 0
IsFailing (Some (Act dest ty op.Guard args funcs labels)) locations = bool_of (argument locations args 0) ≡ false
IsFailing item locations = ⊥

-- the newest of these frames stands at a `guard` that fails
abbrev pub FailsGuard : Prog → List Frame → Type 0
FailsGuard Q [] = ⊥
FailsGuard Q (frame ∷ older) = IsFailing (item_at Q frame.function frame.point) frame.locations

-- ---- a state of the program and one of the result

-- each variable, and each shadow, that has one name in both holds the same
abbrev pub LocalsAlike : Prog → Prog → ℕ → Locals → Locals → Type 0
LocalsAlike P Q f p q = ValuesMatch (SameLocation (names_in (slice_get P.funcs f)) (names_in (slice_get Q.funcs f))) p q

-- Two frames of one function: what they hold is the same by its names, and so is what they saved.
pub record FramesAlike (P Q : Prog) (frame result_frame : Frame) : Type 0 where
  pub function : frame.function ≡ result_frame.function
  pub locations : LocalsAlike P Q frame.function frame.locations result_frame.locations
  pub saves : AllZip (LocalsAlike P Q frame.function) frame.saves result_frame.saves

-- Frame by frame, from the newest on, the states hold the same, and their blocks and their output are the same.
pub record StatesAlike (P Q : Prog) (s t : State) : Type 0 where
  pub frames : AllZip (FramesAlike P Q) s.frames t.frames
  pub effects : SameEffects s t
  pub ended : s.ended ≡ t.ended

-- From state s on the run of P comes to stand just behind the label at a point of function f, and then holds the same as u does.
pub record ComesBehind (P Q : Prog) (limits : Limits) (f point : ℕ) (s u : State) : Type 0 where
  pub steps : ℕ
  pub locations : Locals
  pub saves : List Locals
  pub older : List Frame
  pub stands : RunsIn (record { function = f; point = suc point; locations = locations; saves = saves }) older (after (step P limits) steps s)
  pub alike : StatesAlike P Q (after (step P limits) steps s) u

-- ---- one attempt

-- A `speculate` stands in function f of Q at the point `opens`, and behind so many items its `commit`. The attempt begins in state u, in
-- which the newest frame stands at the `speculate` with these locations and saves, over older frames.
module _ (P Q : Prog) (limits : Limits) (f opens size : ℕ) (u : State) (locations : Locals) (saves : List Locals) (older : List Frame) where
  -- The frame stands at the item of number n behind the `speculate`, and what it held there is its newest save. Callers, blocks and
  -- output are as they were.
  pub record IsInside (n : ℕ) (s : State) : Type 0 where
    pub now : Locals
    pub runs : RunsIn (record { function = f; point = suc opens + n; locations = now; saves = locations ∷ saves }) older s
    pub effects : SameEffects s u

  -- A guard failed: the frame stands at the label behind the trace's `commit` and `jmp`, and holds again the variables, shadows and
  -- saves that it held. Callers, blocks and output are as they were. So whatever state of P held the same as u does, holds the same again.
  pub record IsBack (s : State) : Type 0 where
    pub runs : RunsIn (record { function = f; point = suc opens + size + 2; locations = locations; saves = saves }) older s
    pub effects : SameEffects s u
    pub alike : (given : State) → StatesAlike P Q given u → StatesAlike P Q given s

  -- An item faulted. Blocks and output are as they were.
  pub record IsFaulted (s : State) : Type 0 where
    pub kind : Fault
    pub ended : s.ended ≡ Some (Faulted kind)
    pub effects : SameEffects s u

  -- the state after the `speculate` and n more steps
  abbrev pub tried : ℕ → State
  tried n = after (step Q limits) (suc n) u

  -- For so many steps the run stays in the trace, at each item in turn. Then it is at the `commit`, or it leaves the trace by a guard
  -- that fails, or it faults. A guard that fails always gives back what was there.
  pub record IsAttempt : Type 0 where
    pub steps : ℕ
    pub few : steps ≤ size
    pub inside : (n : ℕ) → n ≤ steps → IsInside n (tried n)
    pub gives_back : (n : ℕ) → n ≤ steps → FailsGuard Q (tried n).frames → IsBack (tried (suc n))
    pub ends : (steps ≡ size) ⊎ (IsBack (tried (suc steps)) ⊎ IsFaulted (tried (suc steps)))
