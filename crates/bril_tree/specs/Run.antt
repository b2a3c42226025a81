-- Whole runs of a program, and when one program does what another does.
use Rattle.std.specs.Prelude.{◌≡◌, ℕ, ◌≤◌, List, [], ◌∷◌, map, Option, Some, None, slice_get, take}
use Rattle.std.specs.List.{AllZip}
use Rattle.simulation.specs.System.{System, after}
use Rattle.simulation.specs.Refinement.{Follows}
use Rattle.bril_tree.specs.declared.limits.End.{End}
use Rattle.bril_tree.specs.declared.limits.Limits.{Limits}
use Rattle.bril_tree.specs.declared.numbered_function.Func.{Func}
use Rattle.bril_tree.specs.declared.program.Prog.{Prog}
use Rattle.bril_tree.specs.declared.types.Ty.{Ty}
use Rattle.bril_tree.specs.declared.value.Value.{Value}
use Rattle.bril_tree.specs.State.{State}
use Rattle.bril_tree.specs.Step.{step, new_frame}
use Rattle.bril_tree.specs.Value.{IsInRange, IsOfType}

-- the types of a function's arguments, None for one that has none
abbrev pub types_of : Option Func → List (Option Ty)
types_of None = []
types_of (Some f) = map (λ v. v.ty) (take f.args f.vars)

abbrev pub main_types : Prog → List (Option Ty)
main_types p = types_of (slice_get p.funcs p.main)

-- a value of the type, in its range
abbrev pub Suits : Value → Option Ty → Type 0
Suits v None = ⊥
Suits v (Some ty) = IsInRange v × IsOfType ty v

-- the arguments fit `main`: as many as it takes, each in range and of the type at its place
abbrev pub FitMain : Prog → List Value → Type 0
FitMain p args = AllZip Suits args (main_types p)

-- the first state: one frame of `main`, at its first item, with the arguments
abbrev pub first_state : Prog → Limits → List Value → State
first_state p limits args = record {
  frames = new_frame p.main args ∷ [];
  blocks = [];
  printed = [];
  ended = None;
  failures = λ f i. 0;
}

-- a program under limits, as a system that makes steps
abbrev pub program : Prog → Limits → System End State
program p limits = record { step = step p limits; ending = λ s. s.ended; printed = λ s. s.printed }

-- the state after n steps
abbrev pub state_after : Prog → Limits → List Value → ℕ → State
state_after p limits args n = after (step p limits) n (first_state p limits args)

-- Q does what P does under all limits and with all arguments that fit, in at most k steps for each of P's.
pub record Refines (p q : Prog) (k : ℕ) : Type 0 where
  pub same_types : main_types p ≡ main_types q
  pub positive : 1 ≤ k
  pub follows : (limits : Limits) (args : List Value) → FitMain p args →
      Follows (program p limits) (program q limits) k (first_state p limits args) (first_state q limits args)
