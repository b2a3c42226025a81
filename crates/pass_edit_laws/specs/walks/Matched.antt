-- A walk of the new function, and one of the old that assigns as much.
use Rattle.std.specs.Prelude.{◌≡◌, ◌⊎◌, ℕ, Bool, false, List, [], ◌∷◌, Option, Some, IsSome, slice_get}
use Rattle.bril_tree.specs.Accepted.{AreWalksAccepted, IsAccepted, leaves_frame}
use Rattle.bril_tree.specs.declared.numbered.Instr.{Instr}
use Rattle.bril_tree.specs.declared.program.Prog.{Prog}
use Rattle.bril_tree.specs.Assigned.{assigned_of}
use Rattle.bril_tree.specs.Edge.{Branch, branches_at}
use Rattle.bril_tree.specs.Operand.{Location, reads_of}
use Rattle.bril_tree.specs.Sites.{sites_of, needs_site}
use Rattle.bril_tree.specs.Step.{code_of}
use Rattle.bril_tree.specs.Walk.{IsWalk, end_of}
use Rattle.bril_tree.specs.Membership.{In}
use Rattle.pass_edit_laws.specs.plan.Plan.{Plan, Preserves}

-- what matches a location of the first set is in the second
abbrev pub Covers : (Location → Location → Type 0) → List Location → List Location → Type 0
Covers A xs ys = (a b : Location) → A a b → In a xs → In b ys

module _ (m : Plan) (P Q : Prog) (f : ℕ) (args result_args : ℕ) where
  -- the open sites match at regular pairs of points, and so do the sets that were saved there
  abbrev pub SavedSetsMatch : List ℕ → List ℕ → List (List Location) → List (List Location) → Type 0
  SavedSetsMatch [] [] [] [] = Unit {0}
  SavedSetsMatch (s ∷ ss) (t ∷ ts) (x ∷ xs) (y ∷ ys) = (m.PointsMatch f s t × m.IsRegular f s t × Covers (m.LocationsMatch f s t) x y) × SavedSetsMatch ss ts xs ys
  SavedSetsMatch _ _ _ _ = ⊥

  pub record WalksMatch (w v : List Branch) : Type 0 where
    pub is : IsWalk (code_of P f) w
    pub points : m.PointsMatch f (end_of w) (end_of v)
    pub locations : Covers (m.LocationsMatch f (end_of w) (end_of v)) (assigned_of (code_of P f) args w).locations (assigned_of (code_of Q f) result_args v).locations
    pub saved : SavedSetsMatch (sites_of (code_of P f) w) (sites_of (code_of Q f) v) (assigned_of (code_of P f) args w).saved (assigned_of (code_of Q f) result_args v).saved

  -- a walk of P that matches one of Q
  pub record MatchedWalk (v : List Branch) : Type 0 where
    pub walk : List Branch
    pub matches : WalksMatch walk v

  -- the same, where the two walks end at a regular pair of points
  pub record RegularWalk (v : List Branch) : Type 0 where
    pub walk : List Branch
    pub matches : WalksMatch walk v
    pub regular : m.IsRegular f (end_of walk) (end_of v)

-- an item that needs nothing of the walks to it but that some locations are assigned
pub record IsHarmless (Assured : Location → Type 0) (o : Option Instr) : Type 0 where
  pub there : IsSome o
  pub alone : leaves_frame o ≡ false
  pub closed : needs_site o ≡ false
  pub reads : (item : Instr) → o ≡ Some item → (y : Location) → In y (reads_of item) → Assured y

-- What a pass proves of the walks of its result, beside `Preserves`.
pub record MatchesWalks (m : Plan) (P Q : Prog) (f : ℕ) (args result_args : ℕ) : Type 0 where
  -- the point of P that stands for one of Q
  pub old : ℕ → ℕ
  pub start : MatchedWalk m P Q f args result_args []
  -- each branch of Q is followed, by one of P, by some or by none
  pub branches : (v : List Branch) (b : Branch) → IsWalk (code_of Q f) v → MatchedWalk m P Q f args result_args v → In b (branches_at (code_of Q f) (end_of v)) → MatchedWalk m P Q f args result_args (b ∷ v)
  -- a walk of P can be drawn on to that point
  pub drawn : (v : List Branch) → MatchedWalk m P Q f args result_args v → (l : MatchedWalk m P Q f args result_args v) × (end_of l.walk ≡ old (end_of v))
  -- and there the two make the same step, or Q's item needs nothing
  pub settled : (v : List Branch) → (l : MatchedWalk m P Q f args result_args v) → end_of l.walk ≡ old (end_of v) → m.IsRegular f (end_of l.walk) (end_of v) ⊎ IsHarmless (λ y. (x : Location) × m.LocationsMatch f (end_of l.walk) (end_of v) x y × In x (assigned_of (code_of P f) args l.walk).locations) (slice_get (code_of Q f) (end_of v))
  -- a regular pair has one point of Q
  pub once : (s t u : ℕ) → m.PointsMatch f s t → m.IsRegular f s t → m.PointsMatch f s u → m.IsRegular f s u → t ≡ u

-- The walks of an accepted program's function being accepted, so are those of the result, by a plan.
abbrev pub WalksAccepted : (Prog → Prog → Plan) → Type 0
WalksAccepted plan = (P Q : Prog) (f args result_args : ℕ) (ret : Bool) → IsAccepted P → Preserves (plan P Q) P Q → AreWalksAccepted (code_of P f) args ret → MatchesWalks (plan P Q) P Q f args result_args
    → AreWalksAccepted (code_of Q f) result_args ret
