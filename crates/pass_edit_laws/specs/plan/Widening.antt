-- A plan in which more locations match.
use Rattle.std.specs.Prelude.{◌≡◌, ◌⊎◌, ℕ, true, false, List, ◌∷◌, length, slice_get}
use Rattle.bril_tree.specs.declared.program.Prog.{Prog}
use Rattle.bril_tree.specs.declared.value.Value.{Value}
use Rattle.bril_tree.specs.Assigned.{assigns_at}
use Rattle.bril_tree.specs.Edge.{Branch, branches_at}
use Rattle.bril_tree.specs.Operand.{Location}
use Rattle.bril_tree.specs.Run.{types_of}
use Rattle.bril_tree.specs.Sites.{sites_of}
use Rattle.bril_tree.specs.Step.{code_of, item_at, new_frame}
use Rattle.bril_tree.specs.Walk.{IsWalk, IsReached, end_of}
use Rattle.bril_tree.specs.Membership.{In}
use Rattle.pass_edit_laws.specs.plan.Plan.{Plan, ValuesMatch, StaysMatched, Preserves}

module _ (m : Plan) (X : (f i j : ℕ) → Location → Location → Type 0) where
  abbrev pub wide : Plan
  wide = record { PointsMatch = m.PointsMatch; LocationsMatch = λ f i j a b. m.LocationsMatch f i j a b ⊎ X f i j a b; IsRegular = m.IsRegular; IsKnown = m.IsKnown }

  -- what is asked of the locations that match besides
  pub record Widens (P Q : Prog) : Type 0 where
    pub fresh : (f : ℕ) (vs : List Value) → length vs ≡ length (types_of (slice_get P.funcs f)) → ValuesMatch (X f 0 0) (new_frame f vs).locations (new_frame f vs).locations
    pub kept : (f i j : ℕ) → IsReached (code_of P f) i → m.PointsMatch f i j → m.IsRegular f i j → (w v : Branch) → In w (branches_at (code_of P f) i) → In v (branches_at (code_of Q f) j) → w.aborts ≡ false → (a b : Location) → X f w.to v.to a b
        → StaysMatched (assigns_at (item_at P f i)) (assigns_at (item_at Q f j)) (wide.LocationsMatch f i j) a b
    pub back : (f i j : ℕ) → IsReached (code_of P f) i → m.PointsMatch f i j → m.IsRegular f i j → (w v : Branch) → In w (branches_at (code_of P f) i) → In v (branches_at (code_of Q f) j) → w.aborts ≡ true
        → (walk : List Branch) → IsWalk (code_of P f) walk → end_of walk ≡ i → (s t : ℕ) (sites : List ℕ) → sites_of (code_of P f) walk ≡ s ∷ sites → m.PointsMatch f s t → m.IsRegular f s t → (a b : Location) → X f w.to v.to a b → wide.LocationsMatch f s t a b

-- A plan that is preserved is so with more matching locations, where they keep their values by themselves.
abbrev pub WideningPreserves : (Prog → Prog → Plan) → (Prog → Prog → (f i j : ℕ) → Location → Location → Type 0) → Type 0
WideningPreserves plan more = (P Q : Prog) → Preserves (plan P Q) P Q → Widens (plan P Q) (more P Q) P Q → Preserves (wide (plan P Q) (more P Q)) P Q
