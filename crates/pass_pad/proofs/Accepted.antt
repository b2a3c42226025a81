-- A padded program is accepted.
use Rattle.std.proofs.Common.{◌≡◌, ◌⊎◌, ℕ, zero, suc, pred, List, ◌∷◌, Some, None, refl, sym, ap, subst, ◌∙◌, inl, inr, ⊎_elim}
use Rattle.std.specs.Prelude.{slice_get}
use Rattle.std.proofs.lemmas.Option.{same_Some}
use Rattle.bril_tree.specs.declared.numbered.Instr.{Instr}
use Rattle.bril_tree.specs.declared.numbered_function.Func.{Func}
use Rattle.bril_tree.specs.declared.program.Prog.{Prog}
use Rattle.bril_tree.specs.Accepted.{IsAccepted}
use Rattle.bril_tree.specs.Edge.{Branch, branches_at, branches_from, onward}
use Rattle.bril_tree.specs.Step.{code_of, item_at}
use Rattle.bril_tree.specs.Walk.{IsWalk, end_of}
use Rattle.bril_tree.specs.Membership.{In}
use Rattle.pass_edit_laws.specs.acceptance.Edited.{IsNew, IsOld, Edits}
use Rattle.pass_edit_laws.proofs.lemmas.acceptance.Heads.{start_matched}
use Rattle.pass_edit_laws.proofs.lemmas.acceptance.Alone.{result_alone}
use Rattle.pass_edit_laws.proofs.lemmas.acceptance.Edited.{nop-new, edit_accepted}
use Rattle.pass_edit_laws.proofs.lemmas.acceptance.Left.{dest-there}
use Rattle.bril_tree.specs.Numbered.{nop}
use Rattle.bril_tree.proofs.Assignments.{went_on}
use Rattle.pass_pad.specs.Padded.{PaddedAt}
use Rattle.pass_pad.specs.Plan.{padding, pad_plan}
use Rattle.pass_pad.proofs.Refines.{preserves}
use Rattle.pass_edit_laws.specs.walks.Matched.{WalksMatch, MatchedWalk, MatchesWalks}
use Rattle.pass_edit_laws.proofs.lemmas.walks.Items.{harmless_item}
use Rattle.pass_edit_laws.proofs.lemmas.walks.Walks.{regular_branch_matched}

module _ (P Q : Prog) (accepted : IsAccepted P) (t : PaddedAt P Q) (f : ℕ) (F G : Func) (p : slice_get P.funcs f ≡ Some F) (q : slice_get Q.funcs f ≡ Some G) where
  abbrev Matched : List Branch → Type 0
  Matched v = MatchedWalk (pad_plan P Q) P Q f F.args G.args v

  items : (j : ℕ) (b : Instr) → item_at Q f j ≡ Some b → IsNew P Q f F G b ⊎ IsOld P Q f F G j b
  items zero b at = inl (subst (IsNew P Q f F G) (same_Some nop b (sym (t.first f F p) ∙ at)) (nop-new P Q f F G))
  items (suc i) b at = inr (record { i = i; tree = sym (t.rest f i); stays = inr (λ x y name among k a here dest. dest-there P Q t.heads f F G p q x y name k a here dest (suc k) (sym (t.rest f k))) })

  -- the point of P is one before that of Q
  old-end : (i j : ℕ) → (j ≡ suc i) ⊎ ((i ≡ 0) × (j ≡ 0)) → i ≡ pred j
  old-end i j (inl e) = sym (ap pred e)
  old-end i j (inr z) = z.0 ∙ sym (ap pred z.1)

  -- a walk goes on past the `nop` alone, and from there on with one of P
  goes_on : (v : List Branch) (b : Branch) → IsWalk (code_of Q f) v → Matched v → In b (branches_at (code_of Q f) (end_of v)) → Matched (b ∷ v)
  goes_on v b is l among = ⊎_elim later first l.matches.points
    where
      later : end_of v ≡ suc (end_of l.walk) → Matched (b ∷ v)
      later e = regular_branch_matched (pad_plan P Q) P Q f F.args G.args accepted (preserves P Q t accepted) v b (record { walk = l.walk; matches = l.matches; regular = inl e }) among

      first : (end_of l.walk ≡ 0) × (end_of v ≡ 0) → Matched (b ∷ v)
      first z =
          let at : item_at Q f (end_of v) ≡ Some nop = ap (item_at Q f) z.1 ∙ t.first f F p in
          let branch : b ≡ onward (end_of v) = ⊎_elim (λ e. e) (λ n. absurd n) (subst (λ o. In b (branches_from (code_of Q f) (end_of v) o)) at among) in
          let on = went_on (code_of Q f) G.args v nop is at (inl refl) refl in
          record {
            walk = l.walk;
            matches = subst (λ w. WalksMatch (pad_plan P Q) P Q f F.args G.args l.walk (w ∷ v)) (sym branch)
                (result_alone (pad_plan P Q) P Q f F.args G.args l.walk v l.matches nop on (inl (ap suc (z.1 ∙ sym z.0))) l.matches.locations);
          }

  walks : MatchesWalks (pad_plan P Q) P Q f F.args G.args
  walks = record {
    old = pred;
    start = start_matched P Q t.heads f F G p q (padding P Q) (inr (refl, refl));
    branches = goes_on;
    drawn = λ v l. (l, old-end (end_of l.walk) (end_of v) l.matches.points);
    settled = λ v l e. ⊎_elim (λ s. inl (inl s)) (λ z. inr (harmless_item _ (item_at Q f (end_of v)) nop (ap (item_at Q f) z.1 ∙ t.first f F p) refl refl refl)) l.matches.points;
    once = λ s u w b r c k. after s u r ∙ sym (after s w k);
  }
    where
      after : (i j : ℕ) → (j ≡ suc i) ⊎ (slice_get P.funcs f ≡ None) → j ≡ suc i
      after i j (inl e) = e
      after i j (inr none) = absurd (let h = sym none ∙ p in cc)

  edits : Edits (pad_plan P Q) P Q f F G
  edits = record { items = items; walks = inl walks }

pub padded-accepted : (P Q : Prog) → IsAccepted P → PaddedAt P Q → IsAccepted Q
padded-accepted P Q accepted t = edit_accepted pad_plan P Q accepted (preserves P Q t accepted) t.heads (λ f F G p q. edits P Q accepted t f F G p q)
