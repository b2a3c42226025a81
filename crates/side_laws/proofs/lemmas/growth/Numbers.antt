-- The numbers of a program with side exits, but for its entries: places, arguments, open sites.
use Rattle.std.proofs.Common.{◌≡◌, ◌⊎◌, ℕ, ◌<◌, ◌≤◌, [], ◌∷◌, ◌++◌, length, Some, None, refl, sym, ap, subst, ◌∙◌, inl, inr, ⊎_elim, arith}
use Rattle.std.specs.Prelude.{slice_get, is_some}
use Rattle.std.specs.Option.{option_map}
use Rattle.std.proofs.lemmas.List.{length-map}
use Rattle.std.proofs.lemmas.Option.{same_Some}
use Rattle.program_numbers.specs.Cost.{longest_in}
use Rattle.bril_tree.specs.declared.function_tree.Item.{Item}
use Rattle.bril_tree.specs.declared.numbered.Instr.{Instr}
use Rattle.bril_tree.specs.declared.numbered.Instr.TheVariants.{Act}
use Rattle.bril_tree.specs.declared.numbered.VarInfo.{VarInfo}
use Rattle.bril_tree.specs.declared.numbered_function.Func.{Func}
use Rattle.bril_tree.specs.declared.program.Prog.{Prog}
use Rattle.bril_tree.specs.declared.function_tree.Item.TheVariants as item
use Rattle.bril_tree.specs.declared.operation.Op.TheVariants as op
use Rattle.bril_tree.specs.Accepted.{IsAccepted}
use Rattle.bril_tree.specs.FrameWords.{IsDepth, location_count}
use Rattle.bril_tree.specs.Membership.{In}
use Rattle.bril_tree.specs.Numbered.{item_tree, named, names_in, names_of_functions, point_tree, tree_at, variable_names}
use Rattle.bril_tree.specs.Sites.{sites_of}
use Rattle.bril_tree.specs.Step.{code_of, item_at, items_of}
use Rattle.bril_tree.specs.Walk.{IsWalk}
use Rattle.bril_tree.proofs.Acceptance.{walks_of}
use Rattle.bril_tree.proofs.Elements.{get_in}
use Rattle.bril_tree.proofs.Members.{in_append_cases}
use Rattle.pass_edit_laws.proofs.lemmas.acceptance.Heads.{start_matched}
use Rattle.pass_edit_laws.proofs.lemmas.names.Points.{found}
use Rattle.pass_edit_laws.proofs.lemmas.numbers.Arguments.{no-longer-arguments}
use Rattle.pass_edit_laws.proofs.lemmas.numbers.Items.{IsOfItems, IsPlain, items-plain, plain-tree, unchanged}
use Rattle.pass_edit_laws.proofs.lemmas.numbers.Locations.{accepted-locations}
use Rattle.pass_edit_laws.specs.walks.Matched.{MatchedWalk}
use Rattle.pass_edit_laws.proofs.lemmas.walks.Based.{same_length}
use Rattle.pass_edit_laws.specs.plan.Lines.{jmp_line}
use Rattle.pass_edit_laws.specs.labels.Fresh.{labels_in}
use Rattle.side_laws.specs.Sided.{kept_lines, retargeted}
use Rattle.side_laws.specs.Laid.{Laid, Sort, Old, Retargeted, Line}
use Rattle.side_laws.proofs.lemmas.acceptance.Accepting.{kept-line, summed}
use Rattle.side_laws.proofs.lemmas.layout.Plans.{W, walking}
use Rattle.side_laws.proofs.lemmas.acceptance.Walking.{all-at}

module _ (P Q : Prog) (accepted : IsAccepted P) (st : Laid P Q) (f : ℕ) (F G : Func) (p : slice_get P.funcs f ≡ Some F) (q : slice_get Q.funcs f ≡ Some G) where
  -- each item of Q names variables of P
  module _ (j : ℕ) (b : Instr) (at : slice_get G.code j ≡ Some b) where
    abbrev here : Item
    here = item_tree (names_of_functions Q.funcs) (variable_names G.vars) G.labels b

    stands : tree_at Q f j ≡ Some (item_tree (names_of_functions Q.funcs) (variable_names G.vars) G.labels b)
    stands = ap (λ o. point_tree (names_of_functions Q.funcs) o j) q ∙ ap (option_map (item_tree (names_of_functions Q.funcs) (variable_names G.vars) G.labels)) at

    abbrev Kind : Type 0
    Kind = IsPlain unchanged [] F G b ⊎ ((i : ℕ) × (tree_at P f i ≡ tree_at Q f j))

    among : In b G.code
    among = get_in G.code j b at

    by : Sort P Q st.exits f (item_tree (names_of_functions Q.funcs) (variable_names G.vars) G.labels b) → Kind
    by (Old i none e) = inr (i, e ∙ sym stands)
    by (Retargeted i w c is e same) =
        let o = st.owners f i w is in
        let g = (st.paired f w o.0).fine in
        let a = Act None None op.Guard (g.tested ∷ []) [] (g.guards.0 ∷ []) in
        let there : item_at P f i ≡ Some (Act None None op.Guard (g.tested ∷ []) [] (g.guards.0 ∷ [])) = ap (item_at P f) (sym o.1) ∙ g.guards.1 in
        let h = found P f i (Act None None op.Guard (g.tested ∷ []) [] (g.guards.0 ∷ [])) there in
        let tree : c ≡ item.Act None op.Guard (named (names_in (slice_get P.funcs f)) g.tested ∷ []) [] (named h.function.labels g.guards.0 ∷ []) = same_Some _ _ (sym e ∙ h.tree) in
        let now : here ≡ item.Act None op.Guard (named (names_in (slice_get P.funcs f)) g.tested ∷ []) [] (w.name ∷ []) = same ∙ ap (retargeted w.name) tree in
        let size = length-map F.vars (λ (v : VarInfo). v.name) in
        let low : g.tested < length (variable_names F.vars) = subst (λ l. g.tested < length l) (ap names_in p) h.range.variables.0 in
        inl (plain-tree unchanged [] F G b among (names_of_functions Q.funcs) (item.Act None op.Guard (named (names_in (slice_get P.funcs f)) g.tested ∷ []) [] (w.name ∷ [])) now refl refl
        (λ name k. inl (g.tested, omega (arith, low, size), ap (λ l. named l g.tested) (sym (ap names_in p)) ∙ sym (⊎_elim (λ z. z) (λ z. absurd z) k))))
    by (Line w m (inl e)) = inl (plain-tree unchanged [] F G b among (names_of_functions Q.funcs) (item.Label w.name) e refl refl (λ name k. absurd k))
    by (Line w m (inr n)) = ⊎_elim (λ k. let i = kept-line P Q accepted st f F G p q w.pair.kept here k in inr (i.0, i.1 ∙ sym stands)) (λ k. ⊎_elim (λ e. inl (plain-tree unchanged [] F G b among (names_of_functions Q.funcs) (jmp_line (named (labels_in P f) w.pair.other)) e refl refl (λ name z. absurd z))) (λ z. absurd z) k)
        (in_append_cases here (kept_lines (tree_at P f) w.pair.kept) (jmp_line (named (labels_in P f) w.pair.other) ∷ []) n)

    kind : Kind
    kind = by (st.sorts f j (item_tree (names_of_functions Q.funcs) (variable_names G.vars) G.labels b) stands)

  of-items : IsOfItems unchanged [] F G
  of-items = items-plain P Q f F G p q [] (st.heads.args f F G p q) kind

  pub arguments-within : longest_in G ≤ longest_in F
  arguments-within = no-longer-arguments unchanged [] F G of-items

  pub locations-within : IsAccepted Q → location_count G ≤ location_count F
  locations-within accepted_q = let l = accepted-locations unchanged [] F G of-items Q accepted_q f q in omega (arith, l)

  pub start : MatchedWalk (W P Q accepted st) P Q f F.args G.args []
  start = start_matched P Q st.heads f F G p q (walking P Q accepted st) (sym (st.start f))

  -- each walk has as many open sites as one of P
  pub depth-within : (d e : ℕ) → IsDepth F.code d → IsDepth G.code e → e ≤ d
  depth-within d e a b =
      let was = walks_of P accepted f F p in
      let is : IsWalk (code_of Q f) b.deepest = subst (λ o. IsWalk (items_of o) b.deepest) (sym q) b.is in
      let s = summed P Q accepted st f F.args G.args (is_some F.ret) was b.deepest (all-at P Q accepted st f F.args G.args (is_some F.ret) was start b.deepest is) in
      let same = same_length (W P Q accepted st) P Q f F.args G.args (sites_of (code_of P f) s.based.base) s.based.rest s.based.xs s.based.ys s.based.zipped in
      let sites = ap length (s.based.sites ∙ ap (λ o. o ++ s.based.rest) s.none) in
      let most = a.most s.based.base (subst (λ o. IsWalk (items_of o) s.based.base) p s.based.is) in
      let here : length (sites_of (code_of P f) s.based.base) ≡ length (sites_of F.code s.based.base) = ap (λ o. length (sites_of (items_of o) s.based.base)) p in
      let there : length (sites_of (code_of Q f) b.deepest) ≡ length (sites_of G.code b.deepest) = ap (λ o. length (sites_of (items_of o) b.deepest)) q in
      let reaches = b.reaches in
      omega (arith, same, sites, most, here, there, reaches)
