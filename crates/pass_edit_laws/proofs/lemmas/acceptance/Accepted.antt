-- The result of a pass is accepted.
use Rattle.std.proofs.Common.{◌≡◌, ℕ, get_or, Option, Some, None, refl, sym, ap, subst, ◌∙◌, ⊎_elim, All}
use Rattle.std.specs.Prelude.{slice_get, is_some, IsTrue}
use Rattle.std.proofs.lemmas.Option.{slice_get-get_or, same_Some}
use Rattle.bril_tree.specs.declared.numbered.Instr.{Instr}
use Rattle.bril_tree.specs.declared.numbered_function.Func.{Func}
use Rattle.bril_tree.specs.declared.program.Prog.{Prog}
use Rattle.bril_tree.specs.Accepted.{IsAccepted, IsAcceptedFunction, IsPlainType, AreWalksAccepted}
use Rattle.bril_tree.specs.Numbered.{names_of_functions, names_in, tree_at}
use Rattle.bril_tree.specs.Run.{types_of}
use Rattle.bril_tree.specs.Shape.{is_shaped}
use Rattle.bril_tree.specs.Step.{items_of, code_of, item_at}
use Rattle.bril_tree.specs.Typing.{type_fault, return_type, is_call_shaped}
use Rattle.bril_tree.proofs.Trees.{nothing_at}
use Rattle.bril_tree.proofs.Acceptance.{accepted_function, shaped_at, call_at, typed_at}
use Rattle.bril_names.proofs.Functions.{Differ-functions}
use Rattle.pass_edit_laws.specs.names.NamedPlan.{SameHeads}
use Rattle.pass_edit_laws.proofs.lemmas.names.Items.{item-shares}
use Rattle.pass_edit_laws.proofs.lemmas.names.Points.{found, found_under, same_name-of}
use Rattle.pass_edit_laws.proofs.lemmas.names.Heads.{partner}
use Rattle.pass_edit_laws.proofs.lemmas.acceptance.Fitting.{shape-same, call-same, typed-kept}
use Rattle.pass_edit_laws.specs.acceptance.Stays.{FitsByItself, StaysTyped, Stays}

module _ (P Q : Prog) (accepted : IsAccepted P) (heads : SameHeads P Q) (main : P.main ≡ Q.main) (types_same : (f : ℕ) (F G : Func) → slice_get P.funcs f ≡ Some F → slice_get Q.funcs f ≡ Some G → types_of (Some F) ≡ types_of (Some G)) where
  module _ (g : ℕ) where
    by_callee : {X : Type 0} (of : Option Func → X) → ((F G : Func) → slice_get P.funcs g ≡ Some F → slice_get Q.funcs g ≡ Some G → of (Some F) ≡ of (Some G)) → of (slice_get P.funcs g) ≡ of (slice_get Q.funcs g)
    by_callee {X} of same = by (slice_get P.funcs g) (slice_get Q.funcs g) refl refl
      where
        lacks : slice_get P.funcs g ≡ None → (G : Func) → slice_get Q.funcs g ≡ Some G → ⊥
        lacks n G q =
            let back : SameHeads Q P = record { names = sym heads.names; args = λ f A B a b. sym (heads.args f B A b a); ret = λ f A B a b. sym (heads.ret f B A b a) } in
            let F = partner Q P back g G q in
            let h = sym n ∙ F.1 in cc

        by : (o u : Option Func) → slice_get P.funcs g ≡ o → slice_get Q.funcs g ≡ u → of (slice_get P.funcs g) ≡ of (slice_get Q.funcs g)
        by None None p q = ap of p ∙ sym (ap of q)
        by None (Some G) p q = absurd (lacks p G q)
        by (Some F) None p q = absurd (let h = partner P Q heads g F p in let k = sym q ∙ h.1 in cc)
        by (Some F) (Some G) p q = ap of p ∙ same F G p q ∙ sym (ap of q)

    -- a callee takes and gives the same types
    pub callee-types : types_of (slice_get P.funcs g) ≡ types_of (slice_get Q.funcs g)
    callee-types = by_callee types_of (λ F G p q. types_same g F G p q)

    pub callee-result : return_type (slice_get P.funcs g) ≡ return_type (slice_get Q.funcs g)
    callee-result = by_callee return_type (λ F G p q. heads.ret g F G p q)

  module _ (f : ℕ) (F G : Func) (p : slice_get P.funcs f ≡ Some F) (q : slice_get Q.funcs f ≡ Some G) (s : Stays P Q f F G) where
    fits : (j : ℕ) (b : Instr) → item_at Q f j ≡ Some b → FitsByItself Q G b
    fits j b at = ⊎_elim (λ a. a) (λ t. by t t.i t.tree (item_at P f t.i) refl) (s.items j b at)
      where
        by : StaysTyped P Q f F G j b → (i : ℕ) → tree_at Q f j ≡ tree_at P f i → (o : Option Instr) → item_at P f i ≡ o → FitsByItself Q G b
        by t i e None none = absurd (let h = sym (nothing_at P f i none) ∙ sym e ∙ (found Q f j b at).tree in cc)
        by t i e (Some a) here =
            let fa = found P f i a here in
            let fb = found Q f j b at in
            let fs = names_of_functions P.funcs in
            let V = names_in (slice_get P.funcs f) in
            let W = names_in (slice_get Q.funcs f) in
            let under = found_under fs Q heads.names f j b fb in
            let same = same_Some _ _ (sym fa.tree ∙ sym e ∙ under.tree) in
            let facts = accepted_function P f F accepted p in
            let at_a : slice_get F.code i ≡ Some a = ap (λ o. slice_get (items_of o) i) (sym p) ∙ here in
            let shaped = shaped_at P F facts i a at_a in
            let called = call_at P F facts i a at_a in
            let typed = typed_at P F facts i a at_a in
            let h = item-shares fs V W fa.function.labels fb.function.labels (Differ-functions P) (λ x. Unit {0}) (is_some F.ret) a b shaped same fa.range under.range (λ x i. tt) in
            let ret = heads.ret f F G p q in
            let back = same_name-of P Q f F G p q in
            record {
              shaped = sym (shape-same fs V W fa.function.labels fb.function.labels (Differ-functions P) (λ x. Unit {0}) P Q F G callee-types callee-result ret (is_some G.ret) a b h) ∙ ap (λ r. is_shaped (is_some r) a) (sym ret) ∙ shaped;
              calls = sym (call-same fs V W fa.function.labels fb.function.labels (Differ-functions P) (λ x. Unit {0}) P Q F G callee-types callee-result ret a b h) ∙ called;
              typed = typed-kept fs V W fa.function.labels fb.function.labels (Differ-functions P) (λ x. Unit {0}) P Q F G callee-types callee-result ret a b shaped h (λ x y n i. t.dests x y (back x y n) i) (λ x y n i. t.reads x y (back x y n) i) (λ x y n i. t.names x y (back x y n) i) typed;
            }

    code : code_of Q f ≡ G.code
    code = ap items_of q

    each : (R : Instr → Type 0) → ((b : Instr) → FitsByItself Q G b → R b) → All R G.code
    each R of k d less =
        let b = get_or G.code k d in
        of b (fits k b (ap (λ c. slice_get c k) code ∙ slice_get-get_or G.code k d less))

    walks : AreWalksAccepted G.code G.args (is_some G.ret)
    walks = subst (λ c. AreWalksAccepted c G.args (is_some G.ret)) code s.walks

    pub function-accepted : IsAcceptedFunction Q G
    function-accepted = record {
      shaped = each (λ b. IsTrue (is_shaped (is_some G.ret) b)) (λ b h. h.shaped);
      calls = each (λ b. IsTrue (is_call_shaped Q G b)) (λ b h. h.calls);
      typed = each (λ b. type_fault Q G b ≡ None) (λ b h. h.typed);
      sites = walks.sites;
      alone = walks.alone;
      returns = walks.returns;
      assigned = walks.assigned;
    }

  -- The program that a pass made is accepted where each of its functions stays.
  pub program_accepted : ((f : ℕ) (F G : Func) → slice_get P.funcs f ≡ Some F → slice_get Q.funcs f ≡ Some G → Stays P Q f F G) → IsAccepted Q
  program_accepted stays = record {
    main = record {
      returns_nothing = ap (λ n. return_type (slice_get Q.funcs n)) (sym main) ∙ sym (callee-result P.main) ∙ accepted.main.returns_nothing;
      takes_plain = subst (All IsPlainType) (callee-types P.main ∙ ap (λ n. types_of (slice_get Q.funcs n)) main) accepted.main.takes_plain;
    };
    functions = λ f d less.
        let G = get_or Q.funcs f d in
        let q = slice_get-get_or Q.funcs f d less in
        let back : SameHeads Q P = record { names = sym heads.names; args = λ f A B a b. sym (heads.args f B A b a); ret = λ f A B a b. sym (heads.ret f B A b a) } in
        let F = partner Q P back f G q in
        function-accepted f F.0 G F.1 q (stays f F.0 G F.1 q);
  }
