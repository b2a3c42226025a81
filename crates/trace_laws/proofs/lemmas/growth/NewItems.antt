-- The items of a function with laid traces are those of the function that it was made of, or new ones that name at most one
-- new variable for each laid item.
use Rattle.bril_tree.specs.declared.function_tree.Item.TheVariants as item
use Rattle.std.proofs.Common.{◌≡◌, ◌⊎◌, ℕ, suc, ◌+◌, ◌<◌, ◌≤◌, Bool, true, false, List, [], ◌∷◌, ◌++◌, length, map, Option, Some, None, refl, sym, ap, subst, ◌∙◌, inl, inr, ⊎_elim, cond, arith}
use Rattle.std.specs.Prelude.{slice_get, ◌==◌}
use Rattle.std.specs.List.{range_with_len}
use Rattle.std.specs.Option.{option_map}
use Rattle.std.proofs.lemmas.List.{length-append, length-map}
use Rattle.std.proofs.lemmas.List.FromFn.{length-range_with_len}
use Rattle.std.proofs.lemmas.Option.{same_Some, slice_get_within}
use Rattle.bril_tree.specs.declared.function_tree.Item.{Item}
use Rattle.bril_tree.specs.declared.numbered.Instr.{Instr}
use Rattle.bril_tree.specs.declared.numbered.Instr.TheVariants.{Label, Const, Act}
use Rattle.bril_tree.specs.declared.numbered.VarInfo.{VarInfo}
use Rattle.bril_tree.specs.declared.numbered_function.Func.{Func}
use Rattle.bril_tree.specs.declared.program.Prog.{Prog}
use Rattle.bril_tree.specs.declared.types.Ty.{Ty}
use Rattle.bril_tree.specs.FunctionForm.{listed}
use Rattle.bril_tree.specs.Membership.{In}
use Rattle.bril_tree.specs.Numbered.{named, names_of_functions, names_in, tree_of, function_tree, point_tree, tree_at, item_tree, variable_names}
use Rattle.bril_tree.specs.Step.{code_of, item_at}
use Rattle.bril_tree.proofs.Elements.{get_in, in_get}
use Rattle.bril_tree.proofs.LabelPoints.{in_range}
use Rattle.bril_tree.proofs.Members.{in_append_cases, in_append_left, in_append_right, in_map, in_map_source}
use Rattle.bril_tree.proofs.Trees.{function_at, nothing_at, tree_at-function}
use Rattle.bril_names.proofs.Naming.{AreBelow-append, AreBelow-in}
use Rattle.pass_edit_laws.proofs.lemmas.names.Points.{found}
use Rattle.pass_edit_laws.proofs.lemmas.numbers.Items.{IsOfItems, IsPlain, items-plain, plain-tree, unchanged}
use Rattle.pass_edit_laws.proofs.lemmas.numbers.ItemTrees.{item_names, shadow_names, tree_passes}
use Rattle.pass_edit_laws.proofs.lemmas.names.Trees.{heads-of_trees}
use Rattle.bril_tree.specs.declared.function_tree.FuncTree.{FuncTree}
use Rattle.pass_edit_laws.specs.plan.Spliced.{spliced}
use Rattle.trace_laws.proofs.lemmas.lines.Functions.{laid-heads}
use Rattle.trace_paths.specs.Path.{Leg, Straight, Turn, path_of}
use Rattle.trace_laws.specs.lines.Lines.{TraceNames, args_in, leg_lines, end_lines, trace_lines}
use Rattle.pass_edit_laws.specs.plan.Lines.{listed_item}
use Rattle.trace_laws.specs.lines.Traced.{Trace, Laying, stop_lines, trace_at, lines_behind, IsLaidTree}
use Rattle.trace_paths.specs.Fits.{fit_path}
use Rattle.trace_laws.proofs.lemmas.growth.Entering.{laid_in, laid-in}
use Rattle.trace_laws.proofs.lemmas.lines.Layings.{located, stop_line}
use Rattle.pass_edit_laws.proofs.lemmas.plan.Splicing.{in-spliced}

-- ---- lines

data NewLine (tree : ℕ → Option Item) (names : TraceNames) (most : ℕ) (a : Item) : Type 0 where
  Copied : (i : ℕ) → tree i ≡ Some a → NewLine tree names most a
  Made : shadow_names a ≡ [] → tree_passes a ≡ 0 → ((name : List ℕ) → In name (item_names a) → ((m : ℕ) × (m < most) × (name ≡ names.nots m)) ⊎ ((i : ℕ) × In name (args_in (tree i)))) → NewLine tree names most a

module _ (bool : Ty) (tree : ℕ → Option Item) (names : TraceNames) (most : ℕ) (a : Item) where
  bare : (b : Item) → shadow_names b ≡ [] → tree_passes b ≡ 0 → ((name : List ℕ) → In name (item_names b) → ((m : ℕ) × (m < most) × (name ≡ names.nots m)) ⊎ ((i : ℕ) × In name (args_in (tree i)))) → a ≡ b → NewLine tree names most a
  bare b s p n e = subst (NewLine tree names most) (sym e) (Made s p n)

  listed-new : (i : ℕ) (o : Option Item) → tree i ≡ o → In a (listed_item o) → NewLine tree names most a
  listed-new i None e among = absurd among
  listed-new i (Some b) e (inl s) = Copied i (e ∙ ap Some (sym s))
  listed-new i (Some b) e (inr n) = absurd n

  leg-new : (n : ℕ) (legs : List Leg) → n + length legs ≤ most → In a (leg_lines bool tree names n legs) → NewLine tree names most a
  leg-new n [] few among = absurd among
  leg-new n (Straight i ∷ legs) few among = ⊎_elim (listed-new i (tree i) refl) (leg-new n legs (omega arith)) (in_append_cases a (listed_item (tree i)) (leg_lines bool tree names n legs) among)
  leg-new n (Turn i true ∷ legs) few among = ⊎_elim (bare _ refl refl (λ name k. inr (i, k))) (leg-new n legs (omega arith)) among
  leg-new n (Turn i false ∷ legs) few among =
      ⊎_elim (bare _ refl refl (λ name k. ⊎_elim (λ e. inl (n, omega arith, e)) (λ g. inr (i, g)) k))
      (λ r. ⊎_elim (bare _ refl refl (λ name k. ⊎_elim (λ e. inl (n, omega arith, e)) (λ z. absurd z) k)) (leg-new (suc n) legs (omega arith)) r) among

  end-new : In a (end_lines bool tree names) → NewLine tree names most a
  end-new (inl e) = bare _ refl refl (λ name k. absurd k) e
  end-new (inr (inl e)) = bare _ refl refl (λ name k. absurd k) e
  end-new (inr (inr (inl e))) = bare _ refl refl (λ name k. absurd k) e
  end-new (inr (inr (inr n))) = absurd n

  trace-new : (legs : List Leg) → length legs ≤ most → In a (trace_lines bool tree names legs) → NewLine tree names most a
  trace-new legs few (inl e) = bare _ refl refl (λ name k. absurd k) e
  trace-new legs few (inr among) = ⊎_elim (leg-new 0 legs (omega arith)) end-new (in_append_cases a (leg_lines bool tree names 0 legs) (end_lines bool tree names) among)

-- ---- the new names of a function

abbrev pub trace_nots : Prog → Laying → List (List ℕ)
trace_nots P x = map x.names.nots (range_with_len 0 (length (fit_path P x.fit).legs))

abbrev pub all_nots : Prog → List Laying → List (List ℕ)
all_nots P [] = []
all_nots P (x ∷ laid) = trace_nots P x ++ all_nots P laid

nots-in : (P : Prog) (laid : List Laying) (x : Laying) (m : ℕ) → In x laid → m < length (fit_path P x.fit).legs → In (x.names.nots m) (all_nots P laid)
nots-in P [] x m i less = absurd i
nots-in P (y ∷ laid) x m (inl e) less =
    subst (λ (z : Laying). In (x.names.nots m) (trace_nots P z ++ all_nots P laid)) e
    (in_append_left (x.names.nots m) (trace_nots P x) (all_nots P laid) (in_map x.names.nots m (range_with_len 0 (length (fit_path P x.fit).legs)) (in_range 0 (length (fit_path P x.fit).legs) m (omega arith) (omega arith))))
nots-in P (y ∷ laid) x m (inr i) less = in_append_right (x.names.nots m) (trace_nots P y) (all_nots P laid) (nots-in P laid x m i less)

module _ (P Q : Prog) (bool : Ty) (laid : List Laying) (sp : IsLaidTree P bool laid (tree_of Q)) (f : ℕ) (F G : Func) (p : slice_get P.funcs f ≡ Some F) (q : slice_get Q.funcs f ≡ Some G) where
  abbrev V : List (List ℕ)
  V = variable_names F.vars

  abbrev W : List (List ℕ)
  W = variable_names G.vars

  abbrev extra : List (List ℕ)
  extra = all_nots P (laid_in f laid)

  -- a variable that an item of P names
  named-arg : (i : ℕ) (name : List ℕ) → In name (args_in (tree_at P f i)) → (x : ℕ) × (x < length V) × (named V x ≡ name)
  named-arg i name among = by (item_at P f i) refl
    where
      inP : names_in (slice_get P.funcs f) ≡ V
      inP = ap names_in p

      by : (o : Option Instr) → item_at P f i ≡ o → (x : ℕ) × (x < length V) × (named V x ≡ name)
      by None e = absurd (subst (λ z. In name (args_in z)) (nothing_at P f i e) among)
      by (Some (Label l)) e = let h = found P f i (Label l) e in absurd (subst (λ z. In name (args_in z)) h.tree among)
      by (Some (Const d t v)) e = let h = found P f i (Const d t v) e in absurd (subst (λ z. In name (args_in z)) h.tree among)
      by (Some (Act d t o args fns ls)) e =
          let h = found P f i (Act d t o args fns ls) e in
          let s = in_map_source (named (names_in (slice_get P.funcs f))) name args (subst (λ z. In name (args_in z)) h.tree among) in
          let below = (AreBelow-append (length (names_in (slice_get P.funcs f))) (listed d) args h.range.variables).1 in
          (s.0, subst (λ l. s.0 < length l) inP (AreBelow-in (length (names_in (slice_get P.funcs f))) args below s.0 s.1), ap (λ l. named l s.0) (sym inP) ∙ sym s.2)

  below-vars : (x : ℕ) → x < length V → x < length F.vars
  below-vars x low = let size = length-map F.vars (λ (v : VarInfo). v.name) in omega arith

  -- the item of Q at a point
  module _ (j : ℕ) (b : Instr) (at : slice_get G.code j ≡ Some b) where
    abbrev here : Item
    here = item_tree (names_of_functions Q.funcs) W G.labels b

    abbrev Kind : Type 0
    Kind = IsPlain unchanged extra F G b ⊎ ((i : ℕ) × (tree_at P f i ≡ tree_at Q f j))

    stands : tree_at Q f j ≡ Some here
    stands = ap (λ o. point_tree (names_of_functions Q.funcs) o j) q ∙ ap (option_map (item_tree (names_of_functions Q.funcs) W G.labels)) at

    made : (a : Item) → here ≡ a → (names : TraceNames) (n : ℕ) → ((m : ℕ) → m < n → In (names.nots m) extra) → NewLine (tree_at P f) names n a → Kind
    made a is names n nots (Copied i e) = inr (i, e ∙ ap Some (sym is) ∙ sym stands)
    made a is names n nots (Made shadows passes variables) =
        inl (plain-tree unchanged extra F G b (get_in G.code j b at) (names_of_functions Q.funcs) a is shadows passes
        (λ name i. ⊎_elim (λ h. inr (subst (λ z. In z extra) (sym h.2) (nots h.0 h.1))) (λ h. let n = named-arg h.0 name h.1 in inl (n.0, below-vars n.0 n.1, n.2)) (variables name i)))

    abbrev tP : FuncTree
    tP = function_tree (names_of_functions P.funcs) F

    behind-label : (i : ℕ) (o : Option Trace) → trace_at laid f i ≡ o → In here (lines_behind P bool f i o) → Kind
    behind-label i None e among = absurd among
    behind-label i (Some t) e among =
        let l = located P laid f i t e in
        let legs : length (fit_path P l.x.fit).legs ≡ length (path_of (code_of P f) i t.choices).legs = ap (λ n. length (path_of (code_of P n) l.x.fit.point l.x.fit.choices).legs) l.function ∙ ap (λ n. length (path_of (code_of P f) n l.x.fit.choices).legs) l.point ∙ ap (λ (z : Trace). length (path_of (code_of P f) i z.choices).legs) l.is in
        made here refl t.names (length (path_of (code_of P f) i t.choices).legs)
        (λ m less. subst (λ (z : Trace). In (z.names.nots m) extra) l.is (nots-in P (laid_in f laid) l.x m (laid-in f laid l.x l.among l.function) (omega (arith, less, legs))))
        (trace-new bool (tree_at P f) t.names (length (path_of (code_of P f) i t.choices).legs) here (path_of (code_of P f) i t.choices).legs (omega arith) among)

    before-item : (i : ℕ) → In here (stop_lines P laid f i) → Kind
    before-item i among =
        let k = in_get here (stop_lines P laid f i) among in
        let s = stop_line P laid f i k.0 (slice_get_within (stop_lines P laid f i) k.0 here k.1) in
        let label : here ≡ item.Label s.x.names.stop = same_Some _ _ (sym k.1 ∙ s.is) in
        made (item.Label s.x.names.stop) label s.x.names 0 (λ m less. absurd (omega arith)) (Made refl refl (λ name k. absurd k))

    abbrev spliced_code : List Item
    spliced_code = spliced (stop_lines P laid f) (λ i. lines_behind P bool f i (trace_at laid f i)) 0 tP.code

    abbrev tQ : FuncTree
    tQ = function_tree (names_of_functions Q.funcs) G

    kind : Kind
    kind = ⊎_elim (λ h. inr (h.0, tree_at-function P f h.0 tP (function_at P f F p) ∙ h.1 ∙ sym stands)) (λ r. ⊎_elim (λ h. before-item h.0 h.1) (λ h. behind-label h.0 (trace_at laid f h.0) refl h.1) r)
        (in-spliced (stop_lines P laid f) (λ i. lines_behind P bool f i (trace_at laid f i)) here 0 tP.code (get_in spliced_code j here placed))
      where
        placed : slice_get spliced_code j ≡ Some here
        placed = ap (λ l. slice_get l j) (sym (sp.functions f tP tQ (function_at P f F p) (function_at Q f G q)).code) ∙ sym (tree_at-function Q f j tQ (function_at Q f G q)) ∙ stands

  pub of-items : IsOfItems unchanged (all_nots P (laid_in f laid)) F G
  of-items = items-plain P Q f F G p q (all_nots P (laid_in f laid)) ((heads-of_trees P Q (laid-heads P bool laid (tree_of Q) sp)).args f F G p q) kind

-- ---- how many there are

abbrev pub all_laid : Prog → List Laying → ℕ
all_laid P [] = 0
all_laid P (x ∷ laid) = length (fit_path P x.fit).legs + all_laid P laid

pub nots-few : (P : Prog) (f : ℕ) (laid : List Laying) → length (all_nots P (laid_in f laid)) ≤ all_laid P laid
nots-few P f [] = omega arith
nots-few P f (x ∷ laid) = by (x.fit.function == f) (nots-few P f laid)
  where
    by : (b : Bool) → length (all_nots P (laid_in f laid)) ≤ all_laid P laid → length (all_nots P (cond b (x ∷ laid_in f laid) (laid_in f laid))) ≤ length (fit_path P x.fit).legs + all_laid P laid
    by true rest =
        let a = length-append (trace_nots P x) (all_nots P (laid_in f laid)) in
        let m = length-map (range_with_len 0 (length (fit_path P x.fit).legs)) x.names.nots in
        let n = length-range_with_len 0 (length (fit_path P x.fit).legs) in
        omega arith
    by false rest = omega arith
