-- When a run is well typed: all that its next step needs is there.
use Rattle.std.specs.Prelude.{◌≡◌, ◌≢◌, ℕ, ◌<◌, ◌≤◌, Bool, false, ◌==◌, List, [], ◌∷◌, Option, Some, None, IsSome, IsTrue, length, slice_get, slice_index}
use Rattle.std.specs.List.{Contains}
use Rattle.bril_tree.specs.declared.limits.Limits.{Limits}
use Rattle.bril_tree.specs.declared.numbered.Instr.{Instr}
use Rattle.bril_tree.specs.declared.numbered.Instr.TheVariants.{Label, Const, Act}
use Rattle.bril_tree.specs.declared.numbered_function.Func.{Func}
use Rattle.bril_tree.specs.declared.operation.Op.TheVariants as op
use Rattle.bril_tree.specs.declared.program.Prog.{Prog}
use Rattle.bril_tree.specs.declared.types.Ty.{Ty}
use Rattle.bril_tree.specs.declared.value.Value.{Value}
use Rattle.bril_tree.specs.Accepted.{IsAccepted, leaves_frame}
use Rattle.bril_tree.specs.Literals.{AreLiteralsInRange}
use Rattle.bril_tree.specs.Edge.{Branch}
use Rattle.bril_tree.specs.Live.{IsLive}
use Rattle.bril_tree.specs.Memory.{held}
use Rattle.bril_tree.specs.Operand.{Location, reads_of}
use Rattle.bril_tree.specs.Outcome.{argument}
use Rattle.bril_tree.specs.Locals.{location_type, location_value}
use Rattle.bril_tree.specs.Run.{FitMain, Suits, state_after}
use Rattle.bril_tree.specs.Sites.{most_sites, needs_site, sites_of}
use Rattle.bril_tree.specs.State.{Frame}
use Rattle.bril_tree.specs.Step.{item_at}
use Rattle.bril_tree.specs.Walk.{IsWalk, end_of}

-- All that the step of the frame needs is there.
pub record IsWellTyped (p : Prog) (f : Frame) : Type 0 where
  pub function : Func
  -- it is in a function of the program, at an item or at the end, where a walk leads
  pub there : slice_get p.funcs f.function ≡ Some function
  pub within : f.point ≤ length function.code
  pub walk : List Branch
  pub is : IsWalk function.code walk
  pub ends : end_of walk ≡ f.point
  -- each location that the item reads holds a value, in its range and of the location's type, which it has
  pub reads : (item : Instr) (location : Location) → slice_get function.code f.point ≡ Some item → Contains (reads_of item) location →
      (v : Value) × (location_value f.locations location ≡ Some v) × Suits v (location_type function location)
  -- and so does each typed location that is live there
  pub live : (location : Location) (ty : Ty) → IsLive function.code location f.point → location_type function location ≡ Some ty →
      (v : Value) × (location_value f.locations location ≡ Some v) × Suits v (location_type function location)
  -- there are as many saves as open sites
  pub saves : length f.saves ≡ length (sites_of function.code walk)
  -- a `commit` or a `guard` has a save, and there are never more than eight
  pub saved : IsTrue (needs_site (slice_get function.code f.point)) → f.saves ≢ []
  pub few : length f.saves ≤ most_sites
  -- none is left where a frame begins or ends
  pub alone : IsTrue (leaves_frame (slice_get function.code f.point)) → f.saves ≡ []
  -- a function that returns a value doesn't run off its end
  pub returns : IsSome function.ret → f.point < length function.code

-- the item is a call of the function
abbrev pub calls_function : ℕ → Option Instr → Bool
calls_function g None = false
calls_function g (Some (Label l)) = false
calls_function g (Some (Const dest ty value)) = false
calls_function g (Some (Act dest ty op.Call args funcs labels)) = slice_index funcs 0 == g
calls_function g (Some (Act dest ty _ args funcs labels)) = false

-- each older frame is well typed too, and stands at a call of the function of the frame above it
abbrev pub OlderAreWellTyped : Prog → ℕ → List Frame → Type 0
OlderAreWellTyped p above [] = Unit {0}
OlderAreWellTyped p above (f ∷ older) = IsWellTyped p f × IsTrue (calls_function above (item_at p f.function f.point)) × OlderAreWellTyped p f.function older

-- A run of an accepted program, with arguments that fit, has a newest frame after every number of steps, and its
-- frames are well typed.
abbrev pub RunsAreWellTyped : Type 0
RunsAreWellTyped = (p : Prog) (limits : Limits) (args : List Value) → IsAccepted p → AreLiteralsInRange p → FitMain p args → (n : ℕ) →
    (f : Frame) × (older : List Frame) × ((state_after p limits args n).frames ≡ f ∷ older) × IsWellTyped p f × OlderAreWellTyped p f.function older

-- In such a run, what a `load` finds in the cell to which its argument points is of the type that the `load` gives.
abbrev pub LoadsAreWellTyped : Type 0
LoadsAreWellTyped = (p : Prog) (limits : Limits) (args : List Value) → IsAccepted p → AreLiteralsInRange p → FitMain p args → (n : ℕ) →
    (f : Frame) (older : List Frame) → (state_after p limits args n).frames ≡ f ∷ older →
    (dest : Option ℕ) (ty : Option Ty) (operands funcs labels : List ℕ) → item_at p f.function f.point ≡ Some (Act dest ty op.Load operands funcs labels) →
    (cell : ℕ) (v : Value) → held (state_after p limits args n).blocks (argument f.locations operands 0) cell ≡ Some v → Suits v ty
