-- A tidied program is accepted.
use Rattle.std.proofs.Common.{◌≡◌, ◌⊎◌, ℕ, ◌+◌, Bool, true, false, length, Option, Some, None, refl, sym, ap, subst, ◌∙◌, inl, inr, ⊎_elim, arith}
use Rattle.std.specs.Prelude.{slice_get}
use Rattle.std.proofs.lemmas.List.{length-map}
use Rattle.std.proofs.lemmas.Option.{slice_get_within}
use Rattle.bril_tree.specs.declared.numbered.Instr.{Instr}
use Rattle.bril_tree.specs.declared.numbered_function.Func.{Func}
use Rattle.bril_tree.specs.declared.program.Prog.{Prog}
use Rattle.bril_tree.specs.Accepted.{IsAccepted}
use Rattle.bril_tree.specs.Edge.{Branch, branches_at, branches_from, onward}
use Rattle.bril_tree.specs.Numbered.{variable_names, item_tree, names_of_functions, tree_at}
use Rattle.bril_tree.specs.Step.{items_of, code_of, item_at}
use Rattle.bril_tree.specs.Walk.{IsReached}
use Rattle.bril_tree.specs.Membership.{In}
use Rattle.bril_tree.proofs.Elements.{get_inside}
use Rattle.pass_edit_laws.proofs.lemmas.names.Points.{found}
use Rattle.pass_edit_laws.specs.acceptance.Edited.{IsNew, IsOld, Edits}
use Rattle.pass_edit_laws.proofs.lemmas.acceptance.Heads.{start_matched}
use Rattle.pass_edit_laws.proofs.lemmas.acceptance.Reaching.{ReachedBeside, regular-reaches, reached_points}
use Rattle.pass_edit_laws.proofs.lemmas.acceptance.Edited.{edit_accepted}
use Rattle.tidy_code.proofs.Points.{kept_count, code_tree, Tidied}
use Rattle.tidy_code.proofs.Kept.{count-dropped, kept-length, kept_index}
use Rattle.tidy_code.proofs.Refines.{tidying, tidy_plan, preserves, kept-tree, nop-goes_on}
use Rattle.tidy_code.proofs.Walks.{matched_walks}

module _ (P Q : Prog) (keep : ℕ → ℕ → Bool) (accepted : IsAccepted P) (t : Tidied P keep Q) (f : ℕ) where
  -- for a reached point of P there is a reached one of Q that matches
  onwards : (i : ℕ) → IsReached (code_of P f) i → ReachedBeside (tidy_plan P Q keep t) P Q f i → (w : Branch) → In w (branches_at (code_of P f) i) → ReachedBeside (tidy_plan P Q keep t) P Q f w.to
  onwards i was r w among = by (item_at P f i) (keep f i) refl refl
    where
      regular : (keep f i ≡ true) ⊎ (item_at P f i ≡ None) → ReachedBeside (tidy_plan P Q keep t) P Q f w.to
      regular h = regular-reaches (tidy_plan P Q keep t) P Q f (preserves P Q keep t accepted) i r.j was r.points r.reached h w among

      by : (o : Option Instr) (b : Bool) → item_at P f i ≡ o → keep f i ≡ b → ReachedBeside (tidy_plan P Q keep t) P Q f w.to
      by None b at e = regular (inr at)
      by (Some a) true at e = regular (inl e)
      by (Some a) false at e =
          let on = nop-goes_on a (t.dropped f i a at e was) in
          let branch : w ≡ onward i = ⊎_elim (λ s. s) (λ n. absurd n) (subst (λ l. In w l) (on.branches (code_of P f) i) (subst (λ o. In w (branches_from (code_of P f) i o)) at among)) in
          let z : 0 + i ≡ i = omega arith in
          record { j = r.j; points = r.points ∙ sym (count-dropped (keep f) 0 i (ap (keep f) z ∙ e)) ∙ ap (λ (v : Branch). kept_count (keep f) 0 v.to) (sym branch); reached = r.reached }

  module _ (F G : Func) (p : slice_get P.funcs f ≡ Some F) (q : slice_get Q.funcs f ≡ Some G) where
    -- each item of Q is a kept one of P, and is reached
    pub old-item : (j : ℕ) (b : Instr) → item_at Q f j ≡ Some b → IsOld P Q f F G j b
    old-item j b at =
        let size : length G.code ≡ kept_count (keep f) 0 (length F.code) =
        sym (length-map G.code (item_tree (names_of_functions Q.funcs) (variable_names G.vars) G.labels)) ∙ ap length (t.code f F G p q) ∙ kept-length (keep f) 0 (code_tree P F)
        ∙ ap (kept_count (keep f) 0) (length-map F.code (item_tree (names_of_functions P.funcs) (variable_names F.vars) F.labels)) in
        let inside = slice_get_within G.code j b (ap (λ o. slice_get (items_of o) j) (sym q) ∙ at) in
        let k = kept_index (keep f) 0 (length F.code) j (omega (arith, size, inside)) in
        let z : 0 + k.index ≡ k.index = omega arith in
        let kept : keep f k.index ≡ true = ap (keep f) (sym z) ∙ k.keeps in
        let a = get_inside F.code k.index k.within in
        let here : item_at P f k.index ≡ Some a.0 = ap (λ o. slice_get (items_of o) k.index) p ∙ a.1 in
        let r = reached_points (tidy_plan P Q keep t) P Q f (preserves P Q keep t accepted) onwards k.index (t.kept f k.index a.0 here kept).0 in
        let same : r.j ≡ j = r.points ∙ k.count in
        record {
          i = k.index;
          tree = sym (kept-tree P Q keep t f k.index _ (found P f k.index a.0 here).tree kept ∙ ap (tree_at Q f) k.count);
          stays = inl (subst (IsReached (code_of Q f)) same r.reached);
        }

    items : (j : ℕ) (b : Instr) → item_at Q f j ≡ Some b → IsNew P Q f F G b ⊎ IsOld P Q f F G j b
    items j b at = inr (old-item j b at)

    edits : Edits (tidy_plan P Q keep t) P Q f F G
    edits = record {
      items = items;
      walks = inl (matched_walks P Q keep accepted t f F.args G.args (start_matched P Q t.heads f F G p q (tidying P Q keep t) refl));
    }

-- the result of the pass is accepted
pub tidied-accepted : (P Q : Prog) (keep : ℕ → ℕ → Bool) → IsAccepted P → Tidied P keep Q → IsAccepted Q
tidied-accepted P Q keep accepted t = edit_accepted (λ _ _. tidy_plan P Q keep t) P Q accepted (preserves P Q keep t accepted) t.heads (λ f F G p q. edits P Q keep accepted t f F G p q)
