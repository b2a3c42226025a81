-- A point that is no label is entered from the item before it alone.
use Rattle.std.proofs.Common.{◌≡◌, ◌⊎◌, ℕ, suc, List, [], ◌∷◌, Some, sym, ap, subst, ◌∙◌, inl, inr, arith}
use Rattle.std.specs.Prelude.{slice_get}
use Rattle.bril_tree.specs.declared.numbered.Instr.{Instr}
use Rattle.bril_tree.specs.declared.numbered.Instr.TheVariants.{Label}
use Rattle.bril_tree.specs.Edge.{Branch, branches_at, onward}
use Rattle.bril_tree.specs.Walk.{IsWalk, IsReached, end_of}
use Rattle.bril_tree.specs.Membership.{In}
use Rattle.bril_tree.proofs.Members.{in_contains}
use Rattle.ssa_laws.specs.reaching_definitions.Told.{LeadToLabels}

module _ (code : List Instr) (leads : LeadToLabels code) where
  -- a reached point that is no label is entered by the item before alone
  pub entering : (i : ℕ) → ((l : ℕ) → slice_get code (suc i) ≡ Some (Label l) → ⊥) → IsReached code (suc i) → IsReached code i × In (onward i) (branches_at code i)
  entering i none r = by r.walk r.is r.ends
    where
      by : (walk : List Branch) → IsWalk code walk → end_of walk ≡ suc i → IsReached code i × In (onward i) (branches_at code i)
      by [] is e = absurd (omega (arith, e))
      by (w ∷ walk) is e = by_lead (leads (end_of walk) w (in_contains w (branches_at code (end_of walk)) is.0))
        where
          by_lead : (w ≡ onward (end_of walk)) ⊎ ((l : ℕ) × (slice_get code w.to ≡ Some (Label l))) → IsReached code i × In (onward i) (branches_at code i)
          by_lead (inl o) =
              let p : suc (end_of walk) ≡ suc i = sym (ap (λ (b : Branch). b.to) o) ∙ e in
              let q : end_of walk ≡ i = omega (arith, p) in
              (record { walk = walk; is = is.1; ends = q }, subst (λ k. In (onward k) (branches_at code k)) q (subst (λ b. In b (branches_at code (end_of walk))) o (in_contains w (branches_at code (end_of walk)) is.0)))
          by_lead (inr l) = absurd (none l.0 (ap (slice_get code) (sym e) ∙ l.1))
