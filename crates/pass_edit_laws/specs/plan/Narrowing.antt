-- A plan for fewer points, of which more is known: for a pass whose walks match at all points, and whose runs visit some of
-- them alone.
use Rattle.std.specs.Prelude.{◌≡◌, ℕ, true, false, List, ◌∷◌, length, slice_get}
use Rattle.bril_tree.specs.declared.program.Prog.{Prog}
use Rattle.bril_tree.specs.declared.value.Value.{Value}
use Rattle.bril_tree.specs.Edge.{Branch, branches_at}
use Rattle.bril_tree.specs.Operand.{Location}
use Rattle.bril_tree.specs.Run.{types_of}
use Rattle.bril_tree.specs.Sites.{sites_of}
use Rattle.bril_tree.specs.Step.{code_of, item_at, new_frame}
use Rattle.bril_tree.specs.Walk.{IsWalk, IsReached, end_of}
use Rattle.bril_tree.specs.Membership.{In}
use Rattle.pass_edit_laws.specs.plan.Plan.{Plan, HoldsKnown, IsLearned, Preserves}

-- IsVisited: runs visit this point of P; StaysRegular: this regular pair of points stays one; IsKnown: what is known
module _ (m : Plan) (IsVisited : (f i : ℕ) → Type 0) (StaysRegular : (f i j : ℕ) → Type 0) (IsKnown : (f i : ℕ) → Location → Value → Type 0) where
  abbrev pub narrow : Plan
  narrow = record {
    PointsMatch = λ f i j. m.PointsMatch f i j × IsVisited f i;
    LocationsMatch = m.LocationsMatch;
    IsRegular = λ f i j. m.IsRegular f i j × StaysRegular f i j;
    IsKnown = IsKnown;
  }

  -- what is asked of the points that are visited, and of what is known there
  pub record Narrows (P Q : Prog) : Type 0 where
    pub start : (f : ℕ) → IsVisited f 0
    pub start_known : (f : ℕ) (vs : List Value) → length vs ≡ length (types_of (slice_get P.funcs f)) → HoldsKnown (IsKnown f 0) (new_frame f vs).locations
    pub visits : (f i j : ℕ) → IsReached (code_of P f) i → narrow.PointsMatch f i j → narrow.IsRegular f i j → (w : Branch) → In w (branches_at (code_of P f) i) → IsVisited f w.to
    pub learns : (f i j : ℕ) → IsReached (code_of P f) i → narrow.PointsMatch f i j → narrow.IsRegular f i j → (w : Branch) → In w (branches_at (code_of P f) i) → w.aborts ≡ false → (a : Location) (v : Value) → IsKnown f w.to a v → IsLearned (item_at P f i) (IsKnown f i) a v
    pub remembers : (f : ℕ) (w : Branch) (walk : List Branch) → IsWalk (code_of P f) walk → In w (branches_at (code_of P f) (end_of walk)) → w.aborts ≡ true → (s : ℕ) (sites : List ℕ) → sites_of (code_of P f) walk ≡ s ∷ sites → (a : Location) (v : Value) → IsKnown f w.to a v → IsKnown f s a v

-- A plan that is preserved is so for the points that are visited, where each branch from one leads to another, and what is
-- known holds.
abbrev pub NarrowingPreserves : (Prog → Prog → Plan) → (Prog → Prog → (f i : ℕ) → Type 0) → (Prog → Prog → (f i j : ℕ) → Type 0) → (Prog → Prog → (f i : ℕ) → Location → Value → Type 0) → Type 0
NarrowingPreserves plan visited regular known = (P Q : Prog) → Preserves (plan P Q) P Q → Narrows (plan P Q) (visited P Q) (regular P Q) (known P Q) P Q → Preserves (narrow (plan P Q) (visited P Q) (regular P Q) (known P Q)) P Q
