-- A reached point of the program's function is matched by a reached point of the result's.
use Rattle.std.proofs.Common.{ℕ, List, [], ◌∷◌, refl, subst}
use Rattle.bril_tree.specs.declared.program.Prog.{Prog}
use Rattle.bril_tree.specs.Edge.{Branch, branches_at}
use Rattle.bril_tree.specs.Step.{code_of, item_at}
use Rattle.bril_tree.specs.Walk.{IsWalk, IsReached, end_of}
use Rattle.bril_tree.specs.Membership.{In}
use Rattle.bril_tree.proofs.Members.{in_contains}
use Rattle.bril_tree.proofs.Elements.{zip-partner}
use Rattle.bril_tree.proofs.Branches.{reached_on, reached_start}
use Rattle.pass_edit_laws.specs.plan.Plan.{Plan, Preserves, EdgesMatch}

module _ (m : Plan) (P Q : Prog) (f : ℕ) where
  -- a reached point of Q that matches a point of P
  pub record ReachedBeside (i : ℕ) : Type 0 where
    pub j : ℕ
    pub points : m.PointsMatch f i j
    pub reached : IsReached (code_of Q f) j

  -- a branch from a regular pair
  pub regular-reaches : Preserves m P Q → (i j : ℕ) → IsReached (code_of P f) i → m.PointsMatch f i j → IsReached (code_of Q f) j → m.IsRegular f i j → (w : Branch) → In w (branches_at (code_of P f) i) → ReachedBeside w.to
  regular-reaches preserves i j was points reached regular w among =
      let steps = preserves.steps f i j was points regular in
      let v = zip-partner (EdgesMatch m P Q f i j (item_at P f i) (item_at Q f j)) (branches_at (code_of P f) i) (branches_at (code_of Q f) j) w steps.branches among in
      let matches = v.2 in
      record { j = v.0.to; points = matches.points; reached = reached_on (code_of Q f) j v.0 reached v.1 }

  -- by walks, where each branch of P leads on so
  pub reached_points : Preserves m P Q → ((i : ℕ) → IsReached (code_of P f) i → ReachedBeside i → (w : Branch) → In w (branches_at (code_of P f) i) → ReachedBeside w.to) → (i : ℕ) → IsReached (code_of P f) i → ReachedBeside i
  reached_points preserves step i reached = subst ReachedBeside reached.ends (by reached.walk reached.is)
    where
      by : (w : List Branch) → IsWalk (code_of P f) w → ReachedBeside (end_of w)
      by [] is = record { j = 0; points = preserves.start f; reached = reached_start (code_of Q f) }
      by (branch ∷ w) is = step (end_of w) (record { walk = w; is = is.1; ends = refl }) (by w is.1) branch (in_contains branch (branches_at (code_of P f) (end_of w)) is.0)
