-- The walks of the new function are accepted where each of them is matched by a walk of the old one.
use Rattle.std.proofs.Common.{◌≡◌, ℕ, Bool, List, [], ◌∷◌, refl, sym, ap, ◌∙◌, ⊎_elim, arith, true≢false}
use Rattle.std.specs.Prelude.{slice_get, is_some}
use Rattle.bril_tree.specs.declared.program.Prog.{Prog}
use Rattle.bril_tree.specs.Accepted.{IsAccepted, AreWalksAccepted}
use Rattle.bril_tree.specs.Assigned.{assigned_of}
use Rattle.bril_tree.specs.Edge.{Branch, branches_at}
use Rattle.bril_tree.specs.Operand.{Location}
use Rattle.bril_tree.specs.Step.{code_of}
use Rattle.bril_tree.specs.Walk.{IsWalk, end_of}
use Rattle.bril_tree.specs.Membership.{In}
use Rattle.bril_tree.proofs.Members.{in_contains}
use Rattle.pass_edit_laws.specs.plan.Plan.{Plan, Preserves}
use Rattle.pass_edit_laws.specs.walks.Matched.{WalksAccepted, MatchedWalk, IsHarmless, MatchesWalks}
use Rattle.pass_edit_laws.proofs.lemmas.walks.Based.{Fine, Based, based_on, regular-fine, based_walks_accepted}

module _ (m : Plan) (P Q : Prog) (f args result_args : ℕ) (walks : MatchesWalks m P Q f args result_args) where
  -- each walk of the result is matched
  pub matched : (v : List Branch) → IsWalk (code_of Q f) v → MatchedWalk m P Q f args result_args v
  matched [] is = walks.start
  matched (b ∷ v) is = walks.branches v b is.1 (matched v is.1) (in_contains b (branches_at (code_of Q f) (end_of v)) is.0)

  -- by a walk of P to the point that stands for its end
  drawn : (v : List Branch) → IsWalk (code_of Q f) v → (l : MatchedWalk m P Q f args result_args v) × (end_of l.walk ≡ walks.old (end_of v))
  drawn v is = walks.drawn v (matched v is)

  module _ (accepted : IsAccepted P) (preserves : Preserves m P Q) (ret : Bool) (was : AreWalksAccepted (code_of P f) args ret) where
    module _ (v : List Branch) (is : IsWalk (code_of Q f) v) where
      abbrev l : MatchedWalk m P Q f args result_args v
      l = (drawn v is).0

      fine : Fine m P Q f args result_args ret v
      fine = ⊎_elim (regular-fine m P Q f args result_args ret was accepted preserves v l) harmless (walks.settled v l (drawn v is).1)
        where
          harmless : IsHarmless (λ y. (x : Location) × m.LocationsMatch f (end_of (drawn v is).0.walk) (end_of v) x y × In x (assigned_of (code_of P f) args (drawn v is).0.walk).locations) (slice_get (code_of Q f) (end_of v)) → Fine m P Q f args result_args ret v
          harmless h = record {
            needs = λ n none. true≢false (sym n ∙ h.closed);
            alone = λ n. absurd (true≢false (sym n ∙ h.alone));
            reads = λ item location at among. let r = h.reads item at location among in l.matches.locations r.0 location r.1 r.2;
            returns = λ e none. true≢false (sym h.there ∙ ap is_some none);
          }

      abbrev based : Based m P Q f args result_args ret v
      based = based_on m P Q f args result_args ret was v l.walk l.matches.is (assigned_of (code_of P f) args l.walk).saved (assigned_of (code_of Q f) result_args v).saved l.matches.saved fine

    pub walks_accepted : AreWalksAccepted (code_of Q f) result_args ret
    walks_accepted = based_walks_accepted m P Q f args result_args ret was walks.once based (λ v v' is is' e. (refl, (drawn v is).1 ∙ ap walks.old e ∙ sym (drawn v' is').1))

pub walks_are_accepted : (plan : Prog → Prog → Plan) → WalksAccepted plan
walks_are_accepted plan P Q f args result_args ret accepted preserves was walks = walks_accepted (plan P Q) P Q f args result_args walks accepted preserves ret was
