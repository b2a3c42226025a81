-- A deadened program is accepted.
use Rattle.std.proofs.Common.{◌≡◌, ◌⊎◌, ℕ, suc, Bool, true, false, List, [], ◌∷◌, ◌++◌, length, map, Option, Some, None, refl, sym, ap, subst, ◌∙◌, inl, inr, ⊎_elim}
use Rattle.std.specs.Prelude.{slice_get, is_some}
use Rattle.std.proofs.lemmas.List.{length-map, nil_from_length}
use Rattle.std.proofs.lemmas.Option.{same_Some}
use Rattle.bril_tree.specs.declared.numbered.Instr.{Instr}
use Rattle.bril_tree.specs.declared.numbered.Instr.TheVariants.{Label, Const, Act}
use Rattle.bril_tree.specs.declared.numbered_function.Func.{Func}
use Rattle.bril_tree.specs.declared.operation.Op.{Op}
use Rattle.bril_tree.specs.declared.operation.Op.TheVariants as op
use Rattle.bril_tree.specs.declared.types.Ty.{Ty}
use Rattle.bril_tree.specs.declared.program.Prog.{Prog}
use Rattle.bril_tree.specs.Accepted.{IsAccepted}
use Rattle.bril_tree.specs.Assigned.{assigned_of, assigns_at, assigns_of}
use Rattle.bril_tree.specs.Edge.{Branch, branches_at, branches_from, onward}
use Rattle.bril_tree.specs.Membership.{In}
use Rattle.bril_tree.specs.Numbered.{item_tree, named, names_in, names_of_functions, nop}
use Rattle.bril_tree.specs.Operand.{Variable, reads_of}
use Rattle.bril_tree.specs.Shape.{is_shaped, shape_of}
use Rattle.bril_tree.specs.Step.{code_of, item_at}
use Rattle.bril_tree.specs.Walk.{IsWalk, IsReached, end_of}
use Rattle.bril_tree.proofs.Members.{contains_in, in_append_cases, in_contains}
use Rattle.bril_tree.proofs.Shapes.{shape-parts}
use Rattle.bril_tree.proofs.Trees.{nothing_at}
use Rattle.bril_tree.proofs.Branches.{branch_from}
use Rattle.bril_tree.proofs.Elements.{zip-partner}
use Rattle.bril_tree.proofs.Assignments.{went_on}
use Rattle.pass_edit_laws.specs.acceptance.Edited.{IsNew, LosesNoDestination, IsOld, Edits}
use Rattle.pass_edit_laws.proofs.lemmas.acceptance.Heads.{start_matched}
use Rattle.pass_edit_laws.proofs.lemmas.acceptance.Alone.{both_alone}
use Rattle.pass_edit_laws.proofs.lemmas.acceptance.Edited.{nop-new, edit_accepted}
use Rattle.pass_edit_laws.proofs.lemmas.steps.Shapes.{shaped_here}
use Rattle.pass_edit_laws.specs.plan.Plan.{EdgesMatch}
use Rattle.pass_edit_laws.specs.walks.Matched.{Covers, WalksMatch, MatchedWalk, MatchesWalks}
use Rattle.pass_edit_laws.proofs.lemmas.walks.Items.{harmless_item}
use Rattle.pass_edit_laws.proofs.lemmas.walks.Walks.{regular_branch_matched}
use Rattle.pass_edit_laws.proofs.lemmas.names.Points.{found}
use Rattle.dead_code.specs.Removable.{is_silent}
use Rattle.dead_code.proofs.Chain.{Gone, was_reached}
use Rattle.dead_code.proofs.Points.{Deadened}
use Rattle.dead_code.proofs.Refines.{deadening, dead_plan, preserves, staying-tree, gone-nop, flows-back}
use Rattle.dead_code.proofs.Step.{computation-on, computation-keeps}

-- a silent item and one of the same tree read nothing
module _ (fs V W lP lQ : List (List ℕ)) (ret : Bool) where
  nop-reads : (d e : Option ℕ) (ty tz : Option Ty) (o : Op) (args brgs fns gns ls ms : List ℕ) → length args ≡ 0 → item_tree fs V lP (Act d ty op.Nop args fns ls) ≡ item_tree fs W lQ (Act e tz o brgs gns ms) → reads_of (Act e tz o brgs gns ms) ≡ []
  nop-reads d e ty tz o args brgs fns gns ls ms none same =
      let operation : op.Nop ≡ o = cc in
      let names : map (named V) args ≡ map (named W) brgs = cc in
      let long : length brgs ≡ 0 = sym (length-map brgs (named W)) ∙ sym (ap length names) ∙ length-map args (named V) ∙ none in
      ap (λ z. reads_of (Act e tz z brgs gns ms)) (sym operation) ∙ ap (λ l. reads_of (Act e tz op.Nop l gns ms)) (nil_from_length brgs long)

  silent-reads : (a b : Instr) → is_shaped ret a ≡ true → is_silent a ≡ true → item_tree fs V lP a ≡ item_tree fs W lQ b → reads_of b ≡ []
  silent-reads (Label l) (Label m) s e same = refl
  silent-reads (Label l) (Const d ty v) s e same = refl
  silent-reads (Label l) (Act d ty o args fns ls) s e same = absurd cc
  silent-reads (Const d ty v) b s e same = absurd cc
  silent-reads (Act d ty op.Nop args fns ls) (Label m) s e same = refl
  silent-reads (Act d ty op.Nop args fns ls) (Const x tz v) s e same = refl
  silent-reads (Act d ty op.Nop args fns ls) (Act x tz o brgs gns ms) s e same = nop-reads d x ty tz o args brgs fns gns ls ms (shape-parts (shape_of ret op.Nop) (is_some d) (length args) (length fns) (length ls) s).args_are same
  silent-reads (Act d ty _ args fns ls) b s e same = absurd cc

module _ (P Q : Prog) (made : ℕ → List Instr) (accepted : IsAccepted P) (t : Deadened P Q made) (f : ℕ) where
  -- a branch from a reached point is one in Q
  pub branch-there : (i : ℕ) (w : Branch) → IsReached (code_of P f) i → In w (branches_at (code_of P f) i) → In w (branches_at (code_of Q f) i)
  branch-there i w reached among = ⊎_elim regular gone ((t.chain f).became i)
    where
      regular : slice_get (made f) i ≡ item_at P f i → In w (branches_at (code_of Q f) i)
      regular same =
          let steps = (preserves P Q made t accepted).steps f i i reached refl same in
          let v = zip-partner (EdgesMatch (dead_plan P Q made t) P Q f i i (item_at P f i) (item_at Q f i)) (branches_at (code_of P f) i) (branches_at (code_of Q f) i) w steps.branches among in
          let matches = v.2 in
          let from : v.0.from ≡ w.from = branch_from (code_of Q f) i v.0 v.1 ∙ sym (branch_from (code_of P f) i w among) in
          let one : v.0 ≡ w = (λ k. record { from = from k; to = sym matches.points k; aborts = sym matches.aborts k }) in
          subst (λ (b : Branch). In b (branches_at (code_of Q f) i)) one v.1

      gone : Gone (code_of P f) (made f) i → In w (branches_at (code_of Q f) i)
      gone g =
          let on = computation-on (code_of P f) i g.item (g.why reached).computes in
          let branch : w ≡ onward i = ⊎_elim (λ s. s) (λ n. absurd n) (subst (In w) on (subst (λ o. In w (branches_from (code_of P f) i o)) g.was among)) in
          subst (λ (b : Branch). In b (branches_at (code_of Q f) i)) (sym branch) (subst (λ o. In (onward i) (branches_from (code_of Q f) i o)) (sym (gone-nop P Q made t f i g)) (inl refl))

  -- so a walk of P is one of Q
  pub walk-there : (w : List Branch) → IsWalk (code_of P f) w → IsWalk (code_of Q f) w
  walk-there [] is = tt
  walk-there (b ∷ w) is =
      let among = branch-there (end_of w) b (record { walk = w; is = is.1; ends = refl }) (in_contains b (branches_at (code_of P f) (end_of w)) is.0) in
      (contains_in b (branches_at (code_of Q f) (end_of w)) among, walk-there w is.1)

  pub also_reached : (i : ℕ) → IsReached (code_of P f) i → IsReached (code_of Q f) i
  also_reached i was = record { walk = was.walk; is = walk-there was.walk was.is; ends = was.ends }

  module _ (F G : Func) (p : slice_get P.funcs f ≡ Some F) (q : slice_get Q.funcs f ≡ Some G) where
    no-reads : (b : Instr) → reads_of b ≡ [] → LosesNoDestination P Q f F G b
    no-reads b e x y name among i a at dest = absurd (subst (In (Variable y)) e among)

    -- each item of Q is a `nop` that the pass made, or one of P
    items : (j : ℕ) (b : Instr) → item_at Q f j ≡ Some b → IsNew P Q f F G b ⊎ IsOld P Q f F G j b
    items j b at = ⊎_elim stays (λ g. inl (subst (IsNew P Q f F G) (same_Some nop b (sym (gone-nop P Q made t f j g) ∙ at)) (nop-new P Q f F G))) ((t.chain f).became j)
      where
        stays : slice_get (made f) j ≡ item_at P f j → IsNew P Q f F G b ⊎ IsOld P Q f F G j b
        stays same = inr (by (item_at P f j) refl)
          where
            by : (o : Option Instr) → item_at P f j ≡ o → IsOld P Q f F G j b
            by None none = absurd (let h = sym (nothing_at P f j none) ∙ staying-tree P Q made t f j same ∙ (found Q f j b at).tree in cc)
            by (Some a) here = record {
              i = j;
              tree = sym (staying-tree P Q made t f j same);
              stays = ⊎_elim (λ s. inr (no-reads b (quiet a here s))) (λ r. inl (also_reached j (was_reached (code_of P f) (made f) (t.chain f) j r))) (t.stays f j a (same ∙ here));
            }
              where
                quiet : (a : Instr) → item_at P f j ≡ Some a → is_silent a ≡ true → reads_of b ≡ []
                quiet a here s =
                    let mine = found P f j a here in
                    let theirs = found Q f j b at in
                    let fact = shaped_here P accepted f j a here in
                    silent-reads (names_of_functions P.funcs) (names_in (slice_get P.funcs f)) (names_in (slice_get Q.funcs f)) mine.function.labels theirs.function.labels fact.ret a b fact.shaped s
                    (same_Some _ _ (sym mine.tree ∙ staying-tree P Q made t f j same ∙ theirs.tree) ∙ ap (λ fs. item_tree fs (names_in (slice_get Q.funcs f)) theirs.function.labels b) (sym t.heads.names))

    goes_on : (v : List Branch) (b : Branch) → IsWalk (code_of Q f) v → (l : MatchedWalk (dead_plan P Q made t) P Q f F.args G.args v) → In b (branches_at (code_of Q f) (end_of v)) → MatchedWalk (dead_plan P Q made t) P Q f F.args G.args (b ∷ v)
    goes_on v b is l among =
        ⊎_elim (λ same. regular_branch_matched (dead_plan P Q made t) P Q f F.args G.args accepted (preserves P Q made t accepted) v b (record { walk = l.walk; matches = l.matches; regular = same }) among) gone ((t.chain f).became (end_of l.walk))
      where
        gone : Gone (code_of P f) (made f) (end_of l.walk) → MatchedWalk (dead_plan P Q made t) P Q f F.args G.args (b ∷ v)
        gone g =
            let i = end_of l.walk in
            let was : IsReached (code_of P f) i = record { walk = l.walk; is = l.matches.is; ends = refl } in
            let why = g.why was in
            let on = computation-on (code_of P f) i g.item why.computes in
            let here : item_at Q f (end_of v) ≡ Some nop = ap (item_at Q f) (sym l.matches.points) ∙ gone-nop P Q made t f i g in
            let branch : b ≡ onward (end_of v) = ⊎_elim (λ s. s) (λ n. absurd n) (subst (λ o. In b (branches_from (code_of Q f) (end_of v) o)) here among) in
            let mine = went_on (code_of P f) F.args l.walk g.item l.matches.is g.was (subst (In (onward i)) (sym on) (inl refl)) (computation-keeps g.item false why.computes) in
            let theirs = went_on (code_of Q f) G.args v nop is here (inl refl) refl in
            let step : In (onward i) (branches_at (code_of P f) i) = subst (λ o. In (onward i) (branches_from (code_of P f) i o)) (sym g.was) (subst (In (onward i)) (sym on) (inl refl)) in
            let covers : Covers ((dead_plan P Q made t).LocationsMatch f (suc i) (suc (end_of v))) (assigns_of g.item ++ (assigned_of (code_of P f) F.args l.walk).locations) (assigned_of (code_of Q f) G.args v).locations =
            λ x y matches among.
            let free : In x (assigns_of g.item) → ⊥ = λ k. why.unused x k matches.1 in
            l.matches.locations x y (matches.0, flows-back P Q made t f i (onward i) x was step refl matches.1 (subst (λ o. In x (assigns_at o) → ⊥) (sym g.was) free))
            (⊎_elim (λ k. absurd (free k)) (λ k. k) (in_append_cases x (assigns_of g.item) (assigned_of (code_of P f) F.args l.walk).locations among)) in
            record {
              walk = onward i ∷ l.walk;
              matches = subst (λ w. WalksMatch (dead_plan P Q made t) P Q f F.args G.args (onward i ∷ l.walk) (w ∷ v)) (sym branch)
                  (both_alone (dead_plan P Q made t) P Q f F.args G.args l.walk v l.matches g.item nop mine theirs (ap suc l.matches.points) covers);
            }

    pub walks : MatchesWalks (dead_plan P Q made t) P Q f F.args G.args
    walks = record {
      old = λ j. j;
      start = start_matched P Q t.heads f F G p q (deadening P Q made t) refl;
      branches = goes_on;
      drawn = λ v l. (l, l.matches.points);
      settled = λ v l e. ⊎_elim inl (λ g. inr (harmless_item _ (item_at Q f (end_of v)) nop (ap (item_at Q f) (sym l.matches.points) ∙ gone-nop P Q made t f (end_of l.walk) g) refl refl refl)) ((t.chain f).became (end_of l.walk));
      once = λ s u w b r c k. sym b ∙ c;
    }

    edits : Edits (dead_plan P Q made t) P Q f F G
    edits = record { items = items; walks = inl walks }

-- the result of the pass is accepted
pub deadened-accepted : (P Q : Prog) (made : ℕ → List Instr) → IsAccepted P → Deadened P Q made → IsAccepted Q
deadened-accepted P Q made accepted t = edit_accepted (λ _ _. dead_plan P Q made t) P Q accepted (preserves P Q made t accepted) t.heads (λ f F G p q. edits P Q made accepted t f F G p q)
