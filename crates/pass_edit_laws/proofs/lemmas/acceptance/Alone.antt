-- One side, or each by itself, goes on past an item: what passes that put in, drop, empty or rewrite items want of walks.
use Rattle.std.proofs.Common.{◌≡◌, ℕ, suc, List, ◌∷◌, ◌++◌, sym, subst}
use Rattle.bril_tree.specs.declared.numbered.Instr.{Instr}
use Rattle.bril_tree.specs.declared.program.Prog.{Prog}
use Rattle.bril_tree.specs.Assigned.{Assigned, assigned_of, assigns_of}
use Rattle.bril_tree.specs.Edge.{Branch, branches_at, onward}
use Rattle.bril_tree.specs.Membership.{In}
use Rattle.bril_tree.specs.Operand.{Location}
use Rattle.bril_tree.specs.Sites.{sites_of}
use Rattle.bril_tree.specs.Step.{code_of}
use Rattle.bril_tree.specs.Walk.{IsWalk, end_of}
use Rattle.bril_tree.proofs.Assignments.{WentOn}
use Rattle.bril_tree.proofs.Members.{contains_in}
use Rattle.pass_edit_laws.specs.plan.Plan.{Plan}
use Rattle.pass_edit_laws.specs.walks.Matched.{Covers, SavedSetsMatch, WalksMatch}
use Rattle.pass_edit_laws.proofs.lemmas.walks.Under.{Keeping, keeping-sites, keeping-assigned}

module _ (m : Plan) (P Q : Prog) (f : ℕ) (args result_args : ℕ) (w v : List Branch) (h : WalksMatch m P Q f args result_args w v) where
  abbrev S : List ℕ → List ℕ → List (List Location) → List (List Location) → Type 0
  S = SavedSetsMatch m P Q f args result_args

  abbrev before : Assigned
  before = assigned_of (code_of P f) args w

  abbrev behind : Assigned
  behind = assigned_of (code_of Q f) result_args v

  -- Q goes on past an item that it has alone
  pub result_alone : (b : Instr) → WentOn (code_of Q f) result_args v b → m.PointsMatch f (end_of w) (suc (end_of v)) → Covers (m.LocationsMatch f (end_of w) (suc (end_of v))) before.locations (assigns_of b ++ behind.locations) → WalksMatch m P Q f args result_args w (onward (end_of v) ∷ v)
  result_alone b on points covers = record {
    is = h.is;
    points = points;
    locations = subst (λ (z : Assigned). Covers (m.LocationsMatch f (end_of w) (suc (end_of v))) before.locations z.locations) (sym on.assigned) covers;
    saved = subst (λ (z : Assigned). S (sites_of (code_of P f) w) (sites_of (code_of Q f) (onward (end_of v) ∷ v)) before.saved z.saved) (sym on.assigned)
        (subst (λ l. S (sites_of (code_of P f) w) l before.saved behind.saved) (sym on.sites) h.saved);
  }

  -- each follows a branch of its own, along which the open sites stay and these locations are assigned
  both_further : (x y : Branch) (xs ys : List Location) → IsWalk (code_of P f) (x ∷ w) → sites_of (code_of P f) (x ∷ w) ≡ sites_of (code_of P f) w → assigned_of (code_of P f) args (x ∷ w) ≡ record { locations = xs ++ before.locations; saved = before.saved }
      → sites_of (code_of Q f) (y ∷ v) ≡ sites_of (code_of Q f) v → assigned_of (code_of Q f) result_args (y ∷ v) ≡ record { locations = ys ++ behind.locations; saved = behind.saved }
      → m.PointsMatch f x.to y.to → Covers (m.LocationsMatch f x.to y.to) (xs ++ before.locations) (ys ++ behind.locations) → WalksMatch m P Q f args result_args (x ∷ w) (y ∷ v)
  both_further x y xs ys is sites assigned result_sites result_assigned points covers =
      let code = code_of P f in
      let result_code = code_of Q f in
      record {
        is = is;
        points = points;
        locations = subst (λ (z : Assigned). Covers (m.LocationsMatch f x.to y.to) z.locations (assigned_of result_code result_args (y ∷ v)).locations) (sym assigned)
            (subst (λ (z : Assigned). Covers (m.LocationsMatch f x.to y.to) (xs ++ before.locations) z.locations) (sym result_assigned) covers);
        saved = subst (λ (z : Assigned). S (sites_of code (x ∷ w)) (sites_of result_code (y ∷ v)) z.saved (assigned_of result_code result_args (y ∷ v)).saved) (sym assigned)
            (subst (λ (z : Assigned). S (sites_of code (x ∷ w)) (sites_of result_code (y ∷ v)) before.saved z.saved) (sym result_assigned)
            (subst (λ l. S l (sites_of result_code (y ∷ v)) before.saved behind.saved) (sym sites)
            (subst (λ l. S (sites_of code w) l before.saved behind.saved) (sym result_sites) h.saved)));
      }

  -- each goes on past an item of its own: P computes where Q has a `nop`
  pub both_alone : (a b : Instr) → WentOn (code_of P f) args w a → WentOn (code_of Q f) result_args v b → m.PointsMatch f (suc (end_of w)) (suc (end_of v))
      → Covers (m.LocationsMatch f (suc (end_of w)) (suc (end_of v))) (assigns_of a ++ before.locations) (assigns_of b ++ behind.locations) → WalksMatch m P Q f args result_args (onward (end_of w) ∷ w) (onward (end_of v) ∷ v)
  both_alone a b on bon points covers = both_further (onward (end_of w)) (onward (end_of v)) (assigns_of a) (assigns_of b) on.is on.sites on.assigned bon.sites bon.assigned points covers

  -- each follows any branch of an item of its own that neither opens nor closes a site: P branches where Q jumps
  pub both_along : (a b : Instr) (x y : Branch) → Keeping (code_of P f) w x a → In x (branches_at (code_of P f) (end_of w)) → Keeping (code_of Q f) v y b → m.PointsMatch f x.to y.to
      → Covers (m.LocationsMatch f x.to y.to) (assigns_of a ++ before.locations) (assigns_of b ++ behind.locations) → WalksMatch m P Q f args result_args (x ∷ w) (y ∷ v)
  both_along a b x y k among result_k points covers =
      both_further x y (assigns_of a) (assigns_of b) (contains_in x (branches_at (code_of P f) (end_of w)) among, h.is) (keeping-sites (code_of P f) w x a k) (keeping-assigned (code_of P f) args w x a k)
      (keeping-sites (code_of Q f) v y b result_k) (keeping-assigned (code_of Q f) result_args v y b result_k) points covers
