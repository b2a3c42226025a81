-- A renaming of an accepted program is accepted.
use Rattle.std.proofs.Common.{◌≡◌, ℕ, suc, List, [], ◌∷◌, map, Some, refl, sym, ap, subst, ◌∙◌, inl, inr, ⊎_elim, arith}
use Rattle.std.specs.Prelude.{slice_get, is_some}
use Rattle.std.specs.List.{range_with_len}
use Rattle.std.proofs.lemmas.Option.{same_Some}
use Rattle.bril_tree.specs.declared.numbered.Instr.{Instr}
use Rattle.bril_tree.specs.declared.numbered.Instr.TheVariants.{Act}
use Rattle.bril_tree.specs.declared.numbered_function.Func.{Func}
use Rattle.bril_tree.specs.declared.operation.Op.TheVariants as op
use Rattle.bril_tree.specs.declared.program.Prog.{Prog}
use Rattle.bril_tree.specs.Accepted.{IsAccepted, AreWalksAccepted}
use Rattle.bril_tree.specs.Assigned.{assigned_of, assigns_at}
use Rattle.bril_tree.specs.Edge.{Branch, branches_at, branches_from, onward}
use Rattle.bril_tree.specs.Membership.{In}
use Rattle.bril_tree.specs.Numbered.{names_in, names_of_functions, nop}
use Rattle.bril_tree.specs.Operand.{Location, Variable, Shadow, reads_of}
use Rattle.bril_tree.specs.Run.{types_of}
use Rattle.bril_tree.specs.Shape.{is_shaped}
use Rattle.bril_tree.specs.Step.{code_of, item_at, items_of}
use Rattle.bril_tree.specs.Typing.{return_type}
use Rattle.bril_tree.specs.Walk.{IsWalk, end_of}
use Rattle.bril_tree.proofs.Acceptance.{accepted_function, shaped_at, call_at, typed_at, walks_of}
use Rattle.bril_tree.proofs.Assignments.{same_location, went_on}
use Rattle.bril_tree.proofs.LabelPoints.{in_range}
use Rattle.bril_tree.proofs.Liveness.{live-flows, live_assigned}
use Rattle.bril_tree.proofs.Members.{in_map}
use Rattle.bril_names.proofs.Functions.{Differ-functions}
use Rattle.pass_edit_laws.specs.names.Named.{SameLocation}
use Rattle.pass_edit_laws.proofs.lemmas.names.Heads.{main_same, same_args, types_same}
use Rattle.pass_edit_laws.proofs.lemmas.names.Items.{item-shares}
use Rattle.pass_edit_laws.proofs.lemmas.acceptance.Heads.{start-high, start-shadow}
use Rattle.pass_edit_laws.proofs.lemmas.acceptance.Alone.{both_alone}
use Rattle.pass_edit_laws.specs.acceptance.Stays.{FitsByItself, Stays}
use Rattle.pass_edit_laws.proofs.lemmas.acceptance.Accepted.{callee-result, callee-types, program_accepted}
use Rattle.pass_edit_laws.proofs.lemmas.acceptance.Fitting.{shape-same, call-same, typed-same}
use Rattle.pass_edit_laws.specs.walks.Matched.{Covers, WalksMatch, MatchedWalk, IsHarmless, MatchesWalks}
use Rattle.pass_edit_laws.proofs.lemmas.walks.Accepting.{walks_accepted}
use Rattle.pass_edit_laws.proofs.lemmas.walks.Walks.{regular_branch_matched}
use Rattle.variable_renaming.specs.Renamed.{IsRenaming, IsSelfCopy}
use Rattle.variable_renaming.proofs.Copying.{copy-is}
use Rattle.variable_renaming.proofs.Refines.{names, renaming_plan, preserves, copy-nop, source-live, source-matches}
use Rattle.variable_renaming.proofs.Types.{argument-there, Stayed, stayed, types-kept}

module _ (P Q : Prog) (rename : ℕ → List ℕ → List ℕ) (t : IsRenaming P Q rename) (accepted : IsAccepted P) where
  callees : (g : ℕ) → types_of (slice_get P.funcs g) ≡ types_of (slice_get Q.funcs g)
  callees g = callee-types P Q accepted t.heads (main_same P Q t.heads) (λ f F G p q. types_same P Q t.heads f F G p q) g

  results : (g : ℕ) → return_type (slice_get P.funcs g) ≡ return_type (slice_get Q.funcs g)
  results g = callee-result P Q accepted t.heads (main_same P Q t.heads) (λ f F G p q. types_same P Q t.heads f F G p q) g

  module _ (f : ℕ) (F G : Func) (p : slice_get P.funcs f ≡ Some F) (q : slice_get Q.funcs f ≡ Some G) where
    abbrev N : List (List ℕ)
    N = names P Q rename t f

    abbrev W : List (List ℕ)
    W = names_in (slice_get Q.funcs f)

    -- ---- items

    fits : (j : ℕ) (b : Instr) → item_at Q f j ≡ Some b → FitsByItself Q G b
    fits j b bt = ⊎_elim (λ s. subst (FitsByItself Q G) (same_Some nop b (sym (copy-nop P Q rename t f j s.0) ∙ bt)) (record { shaped = refl; calls = refl; typed = refl })) (λ r. old (stayed P Q rename t accepted f F G p q j b bt r.0)) (t.points f j)
      where
        old : Stayed P Q rename t accepted f F G p q j b → FitsByItself Q G b
        old s =
            let here : slice_get F.code j ≡ Some s.a = ap (λ o. slice_get (items_of o) j) (sym p) ∙ s.at in
            let facts = accepted_function P f F accepted p in
            let shaped = shaped_at P F facts j s.a here in
            let h = item-shares (names_of_functions P.funcs) N W s.labels s.result_labels (Differ-functions P) (λ x. Unit {0}) (is_some F.ret) s.a b shaped s.one s.range s.result_range (λ x i. tt) in
            let ret = t.heads.ret f F G p q in
            record {
              shaped = sym (shape-same (names_of_functions P.funcs) N W s.labels s.result_labels (Differ-functions P) (λ x. Unit {0}) P Q F G callees results ret (is_some G.ret) s.a b h) ∙ ap (λ r. is_shaped (is_some r) s.a) (sym ret) ∙ shaped;
              calls = sym (call-same (names_of_functions P.funcs) N W s.labels s.result_labels (Differ-functions P) (λ x. Unit {0}) P Q F G callees results ret s.a b h) ∙ call_at P F facts j s.a here;
              typed = sym (typed-same (names_of_functions P.funcs) N W s.labels s.result_labels (Differ-functions P) (λ x. Unit {0}) P Q F G callees results ret s.a b shaped h
                  (λ x y n i. types-kept P Q rename t accepted f F G p q x y n) (λ x y n i. types-kept P Q rename t accepted f F G p q x y n)) ∙ typed_at P F facts j s.a here;
            }

    -- ---- walks

    start-covers : (a b : Location) → SameLocation N W a b → In a (map Variable (range_with_len 0 F.args)) → In b (map Variable (range_with_len 0 G.args))
    start-covers (Variable x) (Variable y) h i =
        let less = start-high F.args x i in
        let e = argument-there P Q rename t accepted f F G p q x y less h in
        let both = (same_args P Q t.heads f F G p q).count in
        in_map Variable y (range_with_len 0 G.args) (in_range 0 G.args y (omega arith) (omega (arith, e)))
    start-covers (Variable x) (Shadow y) h i = absurd h
    start-covers (Shadow x) (Variable y) h i = absurd h
    start-covers (Shadow x) (Shadow y) h i = absurd (start-shadow F.args x i)

    goes_on : (v : List Branch) (b : Branch) → IsWalk (code_of Q f) v → (l : MatchedWalk (renaming_plan P Q rename t) P Q f F.args G.args v) → In b (branches_at (code_of Q f) (end_of v)) → MatchedWalk (renaming_plan P Q rename t) P Q f F.args G.args (b ∷ v)
    goes_on v b is l among =
        ⊎_elim (λ s. copied s.0) (λ r. regular_branch_matched (renaming_plan P Q rename t) P Q f F.args G.args accepted (preserves P Q rename t accepted) v b (record { walk = l.walk; matches = l.matches; regular = r.0 }) among) (t.points f (end_of l.walk))
      where
        copied : IsSelfCopy P f (rename f) (end_of l.walk) → MatchedWalk (renaming_plan P Q rename t) P Q f F.args G.args (b ∷ v)
        copied s =
            let i = end_of l.walk in
            let c = copy-is s.item s.x s.y s.copies in
            let a : Instr = Act (Some s.x) c.ty op.Id c.args c.funcs c.labels in
            let at : slice_get (code_of P f) i ≡ Some a = s.at ∙ ap Some c.is in
            let here : item_at Q f (end_of v) ≡ Some nop = ap (item_at Q f) (sym l.matches.points) ∙ copy-nop P Q rename t f i s in
            let branch : b ≡ onward (end_of v) = ⊎_elim (λ e. e) (λ n. absurd n) (subst (λ o. In b (branches_from (code_of Q f) (end_of v) o)) here among) in
            let mine = went_on (code_of P f) F.args l.walk a l.matches.is at (inl refl) refl in
            let theirs = went_on (code_of Q f) G.args v nop is here (inl refl) refl in
            let step : In (onward i) (branches_at (code_of P f) i) = subst (λ o. In (onward i) (branches_from (code_of P f) i o)) (sym at) (inl refl) in
            let covers : Covers ((renaming_plan P Q rename t).LocationsMatch f (suc i) (suc (end_of v))) (Variable s.x ∷ (assigned_of (code_of P f) F.args l.walk).locations) (assigned_of (code_of Q f) G.args v).locations =
            λ x y matches among.
            ⊎_elim
            (λ e. l.matches.locations (Variable s.y) y (source-matches P Q rename t accepted f i s W x y e matches.0, source-live P Q rename t accepted f i s)
            (live_assigned (code_of P f) F.args (is_some F.ret) (walks_of P accepted f F p) (Variable s.y) i (source-live P Q rename t accepted f i s) l.walk l.matches.is refl))
            (λ n. l.matches.locations x y (matches.0, live-flows (code_of P f) i (onward i) x step refl matches.1 (λ k. subst (λ o. In x (assigns_at o) → ⊥) (sym at) (λ j. ⊎_elim n (λ e. absurd e) j) k))
            (⊎_elim (λ e. absurd (n e)) (λ k. k) among))
            (same_location x (Variable s.x)) in
            record {
              walk = onward i ∷ l.walk;
              matches = subst (λ w. WalksMatch (renaming_plan P Q rename t) P Q f F.args G.args (onward i ∷ l.walk) (w ∷ v)) (sym branch)
                  (both_alone (renaming_plan P Q rename t) P Q f F.args G.args l.walk v l.matches a nop mine theirs (ap suc l.matches.points) covers);
            }

    harmless : (Assured : Location → Type 0) (j : ℕ) → item_at Q f j ≡ Some nop → IsHarmless Assured (slice_get (code_of Q f) j)
    harmless Assured j e = subst (IsHarmless Assured) (sym e) (record { there = refl; alone = refl; closed = refl; reads = λ item same y among. absurd (subst (In y) (sym (ap reads_of (same_Some nop item same))) among) })

    pub walks : MatchesWalks (renaming_plan P Q rename t) P Q f F.args G.args
    walks = record {
      old = λ j. j;
      start = record { walk = []; matches = record { is = tt; points = refl; locations = λ a b h i. start-covers a b h.0 i; saved = tt } };
      branches = goes_on;
      drawn = λ v l. (l, l.matches.points);
      settled = λ v l e. ⊎_elim (λ s. inr (harmless _ (end_of v) (ap (item_at Q f) (sym l.matches.points) ∙ copy-nop P Q rename t f (end_of l.walk) s.0))) (λ r. inl r.0) (t.points f (end_of l.walk));
      once = λ s u w b r c k. sym b ∙ c;
    }

    stays : Stays P Q f F G
    stays = record {
      items = λ j b at. inl (fits j b at);
      walks = subst (λ r. AreWalksAccepted (code_of Q f) G.args (is_some r)) (t.heads.ret f F G p q)
          (walks_accepted (renaming_plan P Q rename t) P Q f F.args G.args walks accepted (preserves P Q rename t accepted) (is_some F.ret) (walks_of P accepted f F p));
    }

  pub renaming-accepted : IsAccepted Q
  renaming-accepted = program_accepted P Q accepted t.heads (main_same P Q t.heads) (λ f F G p q. types_same P Q t.heads f F G p q) (λ f F G p q. stays f F G p q)
