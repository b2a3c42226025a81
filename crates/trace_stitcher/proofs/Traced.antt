-- What is made is what the pass makes.
use Rattle.std.proofs.Common.{◌≡◌, ℕ, zero, suc, ◌+◌, Bool, true, false, not, ◌&&◌, List, [], ◌∷◌, ◌++◌, map, Option, Some, None, refl, sym, ap, subst, ◌∙◌, arith, cond}
use Rattle.std.specs.Prelude.{◌==◌, slice_get}
use Rattle.std.specs.List.{All}
use Rattle.std.proofs.lemmas.Bool.{and_parts, eqb-true, cond-true, cond-false}
use Rattle.std.proofs.lemmas.List.Elements.{All-head, All-tail}
use Rattle.std.proofs.lemmas.Option.{same_Some}
use Rattle.bril_tree.specs.declared.function_tree.Item.{Item}
use Rattle.bril_tree.specs.declared.function_tree.Item.TheVariants as item
use Rattle.bril_tree.specs.declared.numbered.Instr.{Instr}
use Rattle.bril_tree.specs.declared.numbered.Instr.TheVariants.{Label, Const, Act}
use Rattle.bril_tree.specs.declared.numbered_function.Func.{Func}
use Rattle.bril_tree.specs.declared.program.Prog.{Prog}
use Rattle.bril_tree.specs.Numbered.{item_tree, named, names_in, names_of_functions, tree_at, variable_names}
use Rattle.bril_tree.specs.Step.{code_of, item_at}
use Rattle.bril_tree.proofs.Trees.{nothing_at}
use Rattle.pass_edit_laws.proofs.lemmas.names.Points.{found}
use Rattle.pass_edit_laws.specs.plan.Spliced.{spliced}
use Rattle.trace_stitcher.specs.declared.matching.fitting.Fitting.{Fitting}
use Rattle.trace_stitcher.specs.matching.Fitting.{HasPath, fit_of}
use Rattle.trace_laws.specs.lines.Lines.{TraceNames, bool_type, trace_lines}
use Rattle.trace_laws.specs.lines.Names.{AreNames, is_label_item, trace_bases}
use Rattle.pass_edit_laws.specs.labels.Fresh.{IsFresh, labels_here, labels_in}
use Rattle.trace_laws.specs.lines.Traced as made
use Rattle.trace_laws.specs.lines.Traced.{AreLaid, Laying, stop_lines, trace_at, trace_of}
use Rattle.trace_paths.specs.Fits.{Fit, fit_path}
use Rattle.trace_paths.specs.Path.{path_of}
use Rattle.trace_paths.specs.Walked.{leg_of}
use Rattle.trace_stitcher.specs.Inserted.{AreNamesFor, labels_before, lines_behind, lines_of, listed_name, traced_items}
use Rattle.trace_stitcher.specs.Stops.{AreNamesHere, IsStop, put_stop}
use Rattle.trace_stitcher.proofs.Splicing.{spliced-same}

-- ---- the names of all traces

no_names : TraceNames
no_names = record { bail = []; stop = []; nots = λ n. [] }

nth_names : List Laying → ℕ → TraceNames
nth_names [] n = no_names
nth_names (y ∷ laid) zero = y.names
nth_names (y ∷ laid) (suc n) = nth_names laid n

nth-first : (y : Laying) (laid : List Laying) → nth_names (y ∷ laid) 0 ≡ y.names
unfolding nth_names
nth-first y laid = refl

nth-later : (y : Laying) (laid : List Laying) (n : ℕ) → nth_names (y ∷ laid) (suc n) ≡ nth_names laid n
unfolding nth_names
nth-later y laid n = refl

-- from 1
pub names_of : List Laying → ℕ → TraceNames
names_of laid zero = no_names
names_of laid (suc k) = nth_names laid k

names-of_next : (laid : List Laying) (k : ℕ) → names_of laid (suc k) ≡ nth_names laid k
unfolding names_of
names-of_next laid k = refl

-- ---- a function of the program

module _ (P : Prog) (f : ℕ) (F : Func) (there : slice_get P.funcs f ≡ Some F) (code : List Item) (tree : (i : ℕ) → tree_at P f i ≡ slice_get code i) where
  -- ---- names

  stop-here : (labels : List (List ℕ)) (K at : ℕ) (stop : List ℕ) → (is_label_item (item_at P f at) ≡ true → tree_at P f at ≡ Some (item.Label stop)) → (is_label_item (item_at P f at) ≡ false → IsFresh labels (trace_bases.stop K) stop) → IsStop labels K (slice_get code at) stop
  stop-here labels K at stop label fresh = by (item_at P f at) refl
    where
      by_item : (a : Instr) → item_at P f at ≡ Some a → (t : Item) → t ≡ item_tree (names_of_functions P.funcs) (names_in (slice_get P.funcs f)) F.labels a → slice_get code at ≡ Some t → IsStop labels K (Some t) stop
      by_item (Label l) here (item.Label m) e c = let same : Some (item.Label stop) ≡ Some (item.Label m) = sym (label (ap is_label_item here)) ∙ tree at ∙ c in cc
      by_item (Label l) here (item.Const d ty v) e c = absurd (let h : item.Const d ty v ≡ item.Label (named F.labels l) = e in cc)
      by_item (Label l) here (item.Act d o args fns ls) e c = absurd (let h : item.Act d o args fns ls ≡ item.Label (named F.labels l) = e in cc)
      by_item (Const d ty v) here (item.Label m) e c = absurd cc
      by_item (Const d ty v) here (item.Const x t w) e c = fresh (ap is_label_item here)
      by_item (Const d ty v) here (item.Act x o args fns ls) e c = absurd cc
      by_item (Act d ty o xs fns ls) here (item.Label m) e c = absurd cc
      by_item (Act d ty o xs fns ls) here (item.Const x t w) e c = absurd cc
      by_item (Act d ty o xs fns ls) here (item.Act x p args gs ms) e c = fresh (ap is_label_item here)

      by : (o : Option Instr) → item_at P f at ≡ o → IsStop labels K (slice_get code at) stop
      by None here = subst (λ z. IsStop labels K z stop) (sym (sym (tree at) ∙ nothing_at P f at here)) (fresh (ap is_label_item here))
      by (Some a) here =
          let h = found P f at a here in
          let same : h.function ≡ F = same_Some h.function F (sym h.there ∙ there) in
          let t : slice_get code at ≡ Some (item_tree (names_of_functions P.funcs) (names_in (slice_get P.funcs f)) F.labels a) = sym (tree at) ∙ h.tree ∙ ap (λ (G : Func). Some (item_tree (names_of_functions P.funcs) (names_in (slice_get P.funcs f)) G.labels a)) same in
          subst (λ z. IsStop labels K z stop) (sym t) (by_item a here (item_tree (names_of_functions P.funcs) (names_in (slice_get P.funcs f)) F.labels a) refl t)

  names-here : (x : Fitting) (K : ℕ) (names : TraceNames) → x.function ≡ f → HasPath P x → AreNames trace_bases P K (fit_of x) names → AreNamesHere F.labels (variable_names F.vars) code K x.path.stop names
  names-here x K names same paths are = record {
    bail = subst (λ ls. IsFresh ls (trace_bases.bail K) names.bail) labels are.bail;
    nots = λ n. subst (λ vs. IsFresh vs (trace_bases.not K (suc n)) (names.nots n)) (ap (λ m. names_in (slice_get P.funcs m)) same ∙ ap names_in there) (are.nots n);
    stop = stop-here F.labels K x.path.stop names.stop
        (λ h. at_tree ∙ are.at_label (item ∙ h))
        (λ h. subst (λ ls. IsFresh ls (trace_bases.stop K) names.stop) labels (are.stop (item ∙ h)));
  }
    where
      labels : labels_in P x.function ≡ F.labels
      labels = ap (labels_in P) same ∙ ap labels_here there

      item : is_label_item (item_at P x.function (fit_path P (fit_of x)).stop) ≡ is_label_item (item_at P f x.path.stop)
      item = λ i. is_label_item (item_at P (same i) (sym paths.stop i))

      at_tree : tree_at P f x.path.stop ≡ tree_at P x.function (fit_path P (fit_of x)).stop
      at_tree = λ i. tree_at P (sym same i) (paths.stop i)

  kth : (K : ℕ) (fits : List Fitting) (laid : List Laying) (k : ℕ) (x : Fitting) → AreLaid trace_bases P K (map fit_of fits) laid → All (HasPath P) fits → slice_get fits k ≡ Some x → x.function ≡ f → AreNamesHere F.labels (variable_names F.vars) code (K + k) x.path.stop (nth_names laid k)
  kth K [] laid k x are paths at same = absurd (let h : None ≡ Some x = at in cc)
  kth K (y ∷ fits) [] k x are paths at same = absurd are
  kth K (y ∷ fits) (z ∷ laid) zero x are paths at same =
      let e : y ≡ x = same_Some y x at in
      let n : K + 0 ≡ K = omega arith in
      subst (λ m. AreNamesHere F.labels (variable_names F.vars) code m x.path.stop (nth_names (z ∷ laid) 0)) (sym n)
      (subst (AreNamesHere F.labels (variable_names F.vars) code K x.path.stop) (sym (nth-first z laid))
      (subst (λ (w : Fitting). AreNamesHere F.labels (variable_names F.vars) code K w.path.stop z.names) e (names-here y K z.names (ap (λ (w : Fitting). w.function) e ∙ same) (All-head (HasPath P) y fits paths) are.1)))
  kth K (y ∷ fits) (z ∷ laid) (suc k) x are paths at same =
      let n : suc K + k ≡ K + suc k = omega arith in
      subst (λ m. AreNamesHere F.labels (variable_names F.vars) code m x.path.stop (nth_names (z ∷ laid) (suc k))) n
      (subst (AreNamesHere F.labels (variable_names F.vars) code (suc K + k) x.path.stop) (sym (nth-later z laid k)) (kth (suc K) fits laid k x are.2 (All-tail (HasPath P) y fits paths) at same))

  pub names-right : (fits : List Fitting) (laid : List Laying) → AreLaid trace_bases P 1 (map fit_of fits) laid → All (HasPath P) fits → AreNamesFor F.labels (variable_names F.vars) code f fits (names_of laid)
  names-right fits laid are paths k x at same =
      let n : 1 + k ≡ suc k = omega arith in
      subst (AreNamesHere F.labels (variable_names F.vars) code (suc k) x.path.stop) (sym (names-of_next laid k)) (subst (λ m. AreNamesHere F.labels (variable_names F.vars) code m x.path.stop (nth_names laid k)) n (kth 1 fits laid k x are paths at same))

  -- ---- labels before an item

  put-tells : (i : ℕ) (stop : List ℕ) → put_stop (slice_get code i) stop ≡ cond (is_label_item (item_at P f i)) None (Some stop)
  put-tells i stop = by (item_at P f i) refl
    where
      of_tree : (a : Instr) → put_stop (Some (item_tree (names_of_functions P.funcs) (names_in (slice_get P.funcs f)) F.labels a)) stop ≡ cond (is_label_item (Some a)) None (Some stop)
      of_tree (Label l) = refl
      of_tree (Const d ty v) = refl
      of_tree (Act d ty o xs fns ls) = refl

      by : (o : Option Instr) → item_at P f i ≡ o → put_stop (slice_get code i) stop ≡ cond (is_label_item (item_at P f i)) None (Some stop)
      by None here = ap (λ z. put_stop z stop) (sym (tree i) ∙ nothing_at P f i here) ∙ ap (λ z. cond (is_label_item z) None (Some stop)) (sym here)
      by (Some a) here =
          let h = found P f i a here in
          let same : h.function ≡ F = same_Some h.function F (sym h.there ∙ there) in
          ap (λ z. put_stop z stop) (sym (tree i) ∙ h.tree ∙ ap (λ (G : Func). Some (item_tree (names_of_functions P.funcs) (names_in (slice_get P.funcs f)) G.labels a)) same) ∙ of_tree a ∙ ap (λ z. cond (is_label_item z) None (Some stop)) (sym here)

  by_tests : (a b c : Bool) (stop : List ℕ) (rest : List (List ℕ)) (others : List Item) → map item.Label rest ≡ others
      → map item.Label (cond (a && b) (listed_name (cond c None (Some stop))) [] ++ rest) ≡ cond (a && (b && not c)) (item.Label stop ∷ others) others
  by_tests true true true stop rest others e = e
  by_tests true true false stop rest others e = ap (λ l. item.Label stop ∷ l) e
  by_tests true false c stop rest others e = e
  by_tests false b c stop rest others e = e

  labels-same : (K : ℕ) (fits : List Fitting) (laid : List Laying) (names : ℕ → TraceNames) (i : ℕ) → AreLaid trace_bases P K (map fit_of fits) laid → All (HasPath P) fits → ((n : ℕ) → names (K + n) ≡ nth_names laid n) → map item.Label (labels_before code f names K fits i) ≡ stop_lines P laid f i
  labels-same K [] laid names i are paths agree = sym (ap (λ l. stop_lines P l f i) are)
  labels-same K (x ∷ fits) [] names i are paths agree = absurd are
  labels-same K (x ∷ fits) (y ∷ laid) names i are paths agree =
      let n : K + 0 ≡ K = omega arith in
      let mine : (names K).stop ≡ y.names.stop = ap (λ m. (names m).stop) (sym n) ∙ ap (λ (z : TraceNames). z.stop) (agree 0 ∙ nth-first y laid) in
      let path = All-head (HasPath P) x fits paths in
      let rest = labels-same (suc K) fits laid names i are.2 (All-tail (HasPath P) x fits paths) (λ m. (let k : suc K + m ≡ K + suc m = omega arith in ap names k) ∙ agree (suc m) ∙ nth-later y laid m) in
      ap (λ o. map item.Label (cond ((x.function == f) && (x.path.stop == i)) (listed_name o) [] ++ labels_before code f names (suc K) fits i)) (put-tells i (names K).stop ∙ ap (λ s. cond (is_label_item (item_at P f i)) None (Some s)) mine)
      ∙ by_tests (x.function == f) (x.path.stop == i) (is_label_item (item_at P f i)) y.names.stop (labels_before code f names (suc K) fits i) (stop_lines P laid f i) rest
      ∙ (λ z. cond ((sym are.0 z).function == f && ((stop-of path z == i) && not (is_label_item (item_at P f i)))) (item.Label y.names.stop ∷ stop_lines P laid f i) (stop_lines P laid f i))
    where
      stop-of : HasPath P x → x.path.stop ≡ (fit_path P y.fit).stop
      stop-of path = path.stop ∙ ap (λ z. (fit_path P z).stop) (sym are.0)

  -- ---- lines behind an item

  lines-same : (K : ℕ) (fits : List Fitting) (laid : List Laying) (names : ℕ → TraceNames) (i : ℕ) → AreLaid trace_bases P K (map fit_of fits) laid → All (HasPath P) fits → ((n : ℕ) → names (K + n) ≡ nth_names laid n) → lines_behind code f names K fits i ≡ made.lines_behind P bool_type f i (trace_at laid f i)
  lines-same K [] laid names i are paths agree = sym (ap (λ l. made.lines_behind P bool_type f i (trace_at l f i)) are)
  lines-same K (x ∷ fits) [] names i are paths agree = absurd are
  lines-same K (x ∷ fits) (y ∷ laid) names i are paths agree =
      by ((x.function == f) && (x.point == i)) refl (lines-same (suc K) fits laid names i are.2 (All-tail (HasPath P) x fits paths) (λ m. (let k : suc K + m ≡ K + suc m = omega arith in ap names k) ∙ agree (suc m) ∙ nth-later y laid m))
    where
      test : ((y.fit.function == f) && (y.fit.point == i)) ≡ ((x.function == f) && (x.point == i))
      test = ap (λ (z : Fit). (z.function == f) && (z.point == i)) are.0

      mine : names K ≡ y.names
      mine = let n : K ≡ K + 0 = omega arith in ap names n ∙ agree 0 ∙ nth-first y laid

      legs : x.function ≡ f → x.point ≡ i → map leg_of x.path.legs.items ≡ (path_of (code_of P f) i y.fit.choices).legs
      legs g p = (All-head (HasPath P) x fits paths).legs ∙ (λ z. (path_of (code_of P (g z)) (p z) (sym are.0 z).choices).legs)

      by : (b : Bool) → ((x.function == f) && (x.point == i)) ≡ b → lines_behind code f names (suc K) fits i ≡ made.lines_behind P bool_type f i (trace_at laid f i) → lines_behind code f names K (x ∷ fits) i ≡ made.lines_behind P bool_type f i (trace_at (y ∷ laid) f i)
      by true h rest =
          let parts = and_parts (x.function == f) (x.point == i) h in
          let g = eqb-true x.function f parts.0 in
          let p = eqb-true x.point i parts.1 in
          cond-true ((x.function == f) && (x.point == i)) (lines_of code (names K) x) (lines_behind code f names (suc K) fits i) h
          ∙ (λ z. trace_lines bool_type (λ n. sym (tree n) z) (mine z) (legs g p z))
          ∙ ap (made.lines_behind P bool_type f i) (sym (cond-true ((y.fit.function == f) && (y.fit.point == i)) (Some (trace_of y)) (trace_at laid f i) (test ∙ h)))
      by false h rest =
          cond-false ((x.function == f) && (x.point == i)) (lines_of code (names K) x) (lines_behind code f names (suc K) fits i) h ∙ rest
          ∙ ap (made.lines_behind P bool_type f i) (sym (cond-false ((y.fit.function == f) && (y.fit.point == i)) (Some (trace_of y)) (trace_at laid f i) (test ∙ h)))

  -- ---- the function

  pub items-traced : (fits : List Fitting) (laid : List Laying) → AreLaid trace_bases P 1 (map fit_of fits) laid → All (HasPath P) fits → traced_items code f (names_of laid) fits ≡ spliced (stop_lines P laid f) (λ i. made.lines_behind P bool_type f i (trace_at laid f i)) 0 code
  items-traced fits laid are paths =
      spliced-same (λ i. map item.Label (labels_before code f (names_of laid) 1 fits i)) (stop_lines P laid f) (lines_behind code f (names_of laid) 1 fits) (λ i. made.lines_behind P bool_type f i (trace_at laid f i)) 0 code
      (λ i. labels-same 1 fits laid (names_of laid) i are paths agree) (λ i. lines-same 1 fits laid (names_of laid) i are paths agree)
    where
      agree : (n : ℕ) → names_of laid (1 + n) ≡ nth_names laid n
      agree n = let e : 1 + n ≡ suc n = omega arith in ap (names_of laid) e ∙ names-of_next laid n
