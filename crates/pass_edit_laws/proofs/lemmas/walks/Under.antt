-- What one branch of a walk does to open sites and sets, and walks of the program under walks of the result that have
-- sites of their own.
use Rattle.std.proofs.Common.{◌≡◌, ℕ, false, List, [], ◌∷◌, ◌++◌, Option, Some, sym, ap, subst, ◌∙◌}
use Rattle.std.specs.Prelude.{slice_get}
use Rattle.bril_tree.specs.declared.numbered.Instr.{Instr}
use Rattle.bril_tree.specs.declared.program.Prog.{Prog}
use Rattle.bril_tree.specs.Assigned.{Assigned, assigned_of, assigned_changed, assigns_at, assigns_of}
use Rattle.bril_tree.specs.Edge.{Branch, branches_at, branches_from}
use Rattle.bril_tree.specs.Operand.{Location}
use Rattle.bril_tree.specs.Sites.{Keeps, item_change, sites_of, sites_changed}
use Rattle.bril_tree.specs.Step.{code_of}
use Rattle.bril_tree.specs.Walk.{IsWalk, end_of}
use Rattle.bril_tree.specs.Membership.{In}
use Rattle.bril_tree.proofs.Members.{contains_in, in_append_right}
use Rattle.pass_edit_laws.specs.plan.Plan.{Plan}
use Rattle.pass_edit_laws.specs.walks.Matched.{Covers, SavedSetsMatch}

pub sites-effect : (code : List Instr) (v : List Branch) (branch : Branch) (o : Option Instr) → slice_get code (end_of v) ≡ o → branch.from ≡ end_of v → sites_of code (branch ∷ v) ≡ sites_changed (item_change o branch.aborts) (end_of v) (sites_of code v)
sites-effect code v branch o at from =
    ap (λ n. sites_changed (item_change (slice_get code n) branch.aborts) n (sites_of code v)) from ∙ ap (λ u. sites_changed (item_change u branch.aborts) (end_of v) (sites_of code v)) at

pub assigned-effect : (code : List Instr) (args : ℕ) (v : List Branch) (branch : Branch) (o : Option Instr) → slice_get code (end_of v) ≡ o → branch.from ≡ end_of v → assigned_of code args (branch ∷ v) ≡ assigned_changed (item_change o branch.aborts) (assigns_at o) branch.aborts (assigned_of code args v)
assigned-effect code args v branch o at from =
    ap (λ n. assigned_changed (item_change (slice_get code n) branch.aborts) (assigns_at (slice_get code n)) branch.aborts (assigned_of code args v)) from
    ∙ ap (λ u. assigned_changed (item_change u branch.aborts) (assigns_at u) branch.aborts (assigned_of code args v)) at

-- a branch that goes on and keeps the sites
pub record Keeping (code : List Instr) (v : List Branch) (branch : Branch) (a : Instr) : Type 0 where
  pub at : slice_get code (end_of v) ≡ Some a
  pub from : branch.from ≡ end_of v
  pub goes : branch.aborts ≡ false
  pub keeps : item_change (Some a) false ≡ Keeps

pub keeping-sites : (code : List Instr) (v : List Branch) (branch : Branch) (a : Instr) → Keeping code v branch a → sites_of code (branch ∷ v) ≡ sites_of code v
keeping-sites code v branch a k = sites-effect code v branch (Some a) k.at k.from ∙ ap (λ b. sites_changed (item_change (Some a) b) (end_of v) (sites_of code v)) k.goes ∙ ap (λ c. sites_changed c (end_of v) (sites_of code v)) k.keeps

pub keeping-assigned : (code : List Instr) (args : ℕ) (v : List Branch) (branch : Branch) (a : Instr) → Keeping code v branch a → assigned_of code args (branch ∷ v) ≡ record { locations = assigns_of a ++ (assigned_of code args v).locations; saved = (assigned_of code args v).saved }
keeping-assigned code args v branch a k =
    assigned-effect code args v branch (Some a) k.at k.from ∙ ap (λ b. assigned_changed (item_change (Some a) b) (assigns_of a) b (assigned_of code args v)) k.goes ∙ ap (λ c. assigned_changed c (assigns_of a) false (assigned_of code args v)) k.keeps

module _ (m : Plan) (A : Location → Location → Type 0) (P Q : Prog) (f args result_args : ℕ) where
  abbrev C : List Instr
  C = code_of P f

  abbrev D : List Instr
  D = code_of Q f

  abbrev Saved : List ℕ → List ℕ → List (List Location) → List (List Location) → Type 0
  Saved = SavedSetsMatch m P Q f args result_args

  -- a walk of P under one of Q, whose sites and sets are these but for its own
  pub record Under (w v : List Branch) (ss : List ℕ) (ys : List (List Location)) : Type 0 where
    pub is : IsWalk (code_of P f) w
    pub locations : Covers A (assigned_of (code_of P f) args w).locations (assigned_of (code_of Q f) result_args v).locations
    pub saved : SavedSetsMatch (m) P Q f args result_args (sites_of (code_of P f) w) ss (assigned_of (code_of P f) args w).saved ys

  -- both go on
  pub under-both : (w v : List Branch) (ss : List ℕ) (ys : List (List Location)) → Under w v ss ys → (a b : Branch) (x y : Instr) → Keeping (code_of P f) w a x → In a (branches_from (code_of P f) (end_of w) (Some x)) → Keeping (code_of Q f) v b y
      → Covers A (assigns_of x ++ (assigned_of (code_of P f) args w).locations) (assigns_of y ++ (assigned_of (code_of Q f) result_args v).locations) → Under (a ∷ w) (b ∷ v) ss ys
  under-both w v ss ys h a b x y ka among kb covers =
      let ea = keeping-assigned C args w a x ka in
      let eb = keeping-assigned D result_args v b y kb in
      record {
        is = (contains_in a (branches_at C (end_of w)) (subst (λ o. In a (branches_from C (end_of w) o)) (sym ka.at) among), h.is);
        locations = subst (λ (z : Assigned). Covers A z.locations (assigned_of (code_of Q f) result_args (b ∷ v)).locations) (sym ea)
            (subst (λ (z : Assigned). Covers A (assigns_of x ++ (assigned_of (code_of P f) args w).locations) z.locations) (sym eb) covers);
        saved = subst (λ (z : Assigned). Saved (sites_of C (a ∷ w)) ss z.saved ys) (sym ea) (subst (λ l. Saved l ss (assigned_of (code_of P f) args w).saved ys) (sym (keeping-sites C w a x ka)) h.saved);
      }

  -- P goes on alone, and assigns nothing
  pub under-P : (w v : List Branch) (ss : List ℕ) (ys : List (List Location)) → Under w v ss ys → (a : Branch) (x : Instr) → Keeping (code_of P f) w a x → In a (branches_from (code_of P f) (end_of w) (Some x)) → assigns_of x ≡ [] → Under (a ∷ w) v ss ys
  under-P w v ss ys h a x ka among none =
      let ea = keeping-assigned C args w a x ka ∙ ap (λ l. record { locations = l ++ (assigned_of (code_of P f) args w).locations; saved = (assigned_of (code_of P f) args w).saved }) none in
      record {
        is = (contains_in a (branches_at C (end_of w)) (subst (λ o. In a (branches_from C (end_of w) o)) (sym ka.at) among), h.is);
        locations = subst (λ (z : Assigned). Covers A z.locations (assigned_of (code_of Q f) result_args v).locations) (sym ea) h.locations;
        saved = subst (λ (z : Assigned). Saved (sites_of C (a ∷ w)) ss z.saved ys) (sym ea) (subst (λ l. Saved l ss (assigned_of (code_of P f) args w).saved ys) (sym (keeping-sites C w a x ka)) h.saved);
      }

  -- Q goes on alone
  pub under-Q : (w v : List Branch) (ss : List ℕ) (ys : List (List Location)) → Under w v ss ys → (b : Branch) (y : Instr) → Keeping (code_of Q f) v b y → Under w (b ∷ v) ss ys
  under-Q w v ss ys h b y kb =
      let eb = keeping-assigned D result_args v b y kb in
      record {
        is = h.is;
        locations = subst (λ (z : Assigned). Covers A (assigned_of (code_of P f) args w).locations z.locations) (sym eb)
            (λ p q matches i. in_append_right q (assigns_of y) (assigned_of (code_of Q f) result_args v).locations (h.locations p q matches i));
        saved = h.saved;
      }
