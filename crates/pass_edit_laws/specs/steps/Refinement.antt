-- How a plan gives refinement: what a pass proves of matched states, and the law.
use Rattle.std.specs.Prelude.{◌≡◌, ℕ, suc, ◌<◌, ◌≤◌, ◌⊎◌, List, ◌∷◌, Some, None}
use Rattle.simulation.specs.System.{IsFinal, after}
use Rattle.simulation.specs.Simulation.{Chunk}
use Rattle.bril_tree.specs.declared.limits.Limits.{Limits}
use Rattle.bril_tree.specs.declared.numbered.Instr.{Instr}
use Rattle.bril_tree.specs.declared.program.Prog.{Prog}
use Rattle.bril_tree.specs.Accepted.{IsAccepted}
use Rattle.bril_tree.specs.Run.{program, Refines}
use Rattle.bril_tree.specs.State.{Locals, Frame, State}
use Rattle.bril_tree.specs.Step.{step, item_step}
use Rattle.pass_edit_laws.specs.plan.Plan.{Plan, Preserves, StatesMatch}

-- the item changes the locations of the newest frame alone, and goes on to the next point
abbrev pub ChangesPlaces : (X : Prog) (limits : Limits) → Instr → Frame → Locals → Type 0
ChangesPlaces X limits item frame locations = (older : List Frame) (s : State) → item_step X limits (Some item) frame older s ≡ record s { frames = record frame { point = suc frame.point; locations = locations } ∷ older }

-- two runs that ended alike
pub record EndedAlike (s t : State) : Type 0 where
  pub ended : s.ended ≡ t.ended
  pub printed : s.printed ≡ t.printed
  pub final : IsFinal s.ended

module _ (m : Plan) (P Q : Prog) (limits : Limits) where
  -- at most c steps of the result alone lead to states that match at a regular pair of points
  pub record CatchesUp (c : ℕ) (s t : State) : Type 0 where
    pub count : ℕ
    pub few : count ≤ c
    pub matched : StatesMatch m P Q s (after (step Q limits) count t)
    pub regular : m.IsRegular matched.frame.function matched.frame.point matched.result_frame.point

  abbrev pub MatchOrEnd : State → State → Type 0
  MatchOrEnd s t = StatesMatch m P Q s t ⊎ EndedAlike s t

  -- how two matched states that run go on, where the result makes at most k steps for each step of the program
  pub data Progress (k : ℕ) (distance : State → ℕ) (s t : State) : Type 0 where
    -- the result comes to a pair of points at which both make the same step
    CatchUp : (c : ℕ) → suc c ≤ k → CatchesUp c s t → Progress k distance s t
    -- the program makes a step alone, and a distance falls
    SourceMoves : distance (step P limits s) < distance s → StatesMatch m P Q (step P limits s) t → Progress k distance s t
    -- some steps of both lead to matched states, or both end alike; the program prints nothing before the last of its steps
    BothMove : Chunk (program P limits) (program Q limits) k MatchOrEnd s t → Progress k distance s t

  pub record Advances (k : ℕ) : Type 0 where
    pub distance : State → ℕ
    pub progress : (s t : State) → StatesMatch m P Q s t → s.ended ≡ None → Progress k distance s t

-- A plan that is preserved, and along which matched states advance with a factor, gives refinement with that factor.
abbrev pub PlanRefines : (Prog → Prog → Plan) → Type 0
PlanRefines plan = (P Q : Prog) (k : ℕ) → IsAccepted P → Preserves (plan P Q) P Q → 1 ≤ k → ((limits : Limits) → Advances (plan P Q) P Q limits k) → Refines P Q k
