-- What a spliced program has of what the simulation needs.
use Rattle.bril_tree.specs.Numbered.{point_tree}
use Rattle.bril_tree.proofs.Trees.{function_at}
use Rattle.bril_tree.specs.declared.function_tree.Item.TheVariants as item
use Rattle.std.proofs.Common.{◌≡◌, ℕ, suc, ◌+◌, ◌-◌, ◌<◌, ◌≤◌, Bool, true, false, List, [], ◌∷◌, length, Option, Some, None, refl, sym, ap, subst, ◌∙◌, inl, inr, arith}
use Rattle.std.specs.Prelude.{slice_get}
use Rattle.std.proofs.lemmas.List.{length-map}
use Rattle.std.proofs.lemmas.Option.{slice_get_within}
use Rattle.bril_tree.specs.declared.function_tree.Item.{Item}
use Rattle.bril_tree.specs.declared.numbered.Instr.{Instr}
use Rattle.bril_tree.specs.declared.numbered.Instr.TheVariants.{Label}
use Rattle.bril_tree.specs.declared.numbered_function.Func.{Func}
use Rattle.bril_tree.specs.declared.program.Prog.{Prog}
use Rattle.bril_tree.specs.declared.types.Ty.{Ty}
use Rattle.bril_tree.specs.Numbered.{function_tree, variable_names, item_tree, names_of_functions, tree_at, tree_of}
use Rattle.bril_tree.specs.Step.{items_of, code_of, item_at}
use Rattle.bril_tree.specs.Walk.{IsReached}
use Rattle.pass_edit_laws.specs.names.NamedPlan.{SameHeads}
use Rattle.pass_edit_laws.proofs.lemmas.names.Trees.{heads-of_trees}
use Rattle.trace_laws.specs.lines.Lines.{trace_lines}
use Rattle.pass_edit_laws.specs.plan.Spliced.{spliced, start_of, position_of}
use Rattle.trace_laws.specs.lines.Traced.{Trace, Laying, stop_lines, trace_of, trace_at, lines_behind, IsLaidTree}
use Rattle.trace_laws.specs.refinement.Stitched.{Stands, StopsAt, IsTracedAt, Stitched}
use Rattle.trace_paths.specs.Fits.{fit_path}
use Rattle.trace_laws.specs.lines.Names.{is_label_item}
use Rattle.pass_edit_laws.proofs.lemmas.names.Standing.{label_at}
use Rattle.pass_edit_laws.proofs.lemmas.plan.Splicing.{item-position, before-position, after-position}
use Rattle.bril_tree.specs.Membership.{In}
use Rattle.pass_edit_laws.proofs.lemmas.names.Points.{found}
use Rattle.bril_tree.proofs.Trees.{nothing_at, tree_at-function}
use Rattle.pass_edit_laws.proofs.lemmas.names.Heads.{partner, no_partner}
use Rattle.trace_laws.proofs.lemmas.lines.Functions.{laid-heads}
use Rattle.trace_laws.proofs.lemmas.lines.Layings.{stop_within, IsLayable, located, stop_line, few_stops, none_before, stop_number}
use Rattle.bril_tree.proofs.Branches.{walk_within}

-- ---- lists of lines

stands-from : (P Q : Prog) (bool : Ty) (f j : ℕ) (lines : List Item) → ((n : ℕ) → n < length lines → tree_at Q f (j + n) ≡ slice_get lines n) → Stands P Q bool f j lines
stands-from P Q bool f j [] h = tt
stands-from P Q bool f j (a ∷ lines) h = (
  (let e : j ≡ j + 0 = omega arith in ap (tree_at Q f) e ∙ h 0 (omega arith)),
  stands-from P Q bool f (suc j) lines (λ n less. let e : suc j + n ≡ j + suc n = omega arith in ap (tree_at Q f) e ∙ h (suc n) (omega arith)),
)

pub stands-in : (P Q : Prog) (bool : Ty) (f j : ℕ) (lines : List Item) (c : Item) → Stands P Q bool f j lines → In c lines → (k : ℕ) × (tree_at Q f k ≡ Some c)
stands-in P Q bool f j [] c s i = absurd i
stands-in P Q bool f j (a ∷ lines) c s (inl e) = (j, s.0 ∙ ap Some (sym e))
stands-in P Q bool f j (a ∷ lines) c s (inr i) = stands-in P Q bool f (suc j) lines c s.1 i

-- ---- the record

module _ (P Q : Prog) (bool : Ty) (laid : List Laying) (layable : (x : Laying) → In x laid → IsLayable P x) (most : length laid ≤ 64) (sp : IsLaidTree P bool laid (tree_of Q)) where
  abbrev pub before : ℕ → ℕ → List Item
  before f = stop_lines P laid f

  abbrev pub behind : ℕ → ℕ → List Item
  behind f = λ i. lines_behind P bool f i (trace_at laid f i)

  abbrev pub old : ℕ → ℕ → ℕ
  old f i = position_of (before f) (behind f) i

  abbrev pub stops : ℕ → ℕ → ℕ
  stops f i = length (before f i)

  pub heads : SameHeads P Q
  heads = heads-of_trees P Q (laid-heads P bool laid (tree_of Q) sp)

  record Both (f : ℕ) (F : Func) : Type 0 where
    code : List Item
    size : length code ≡ length F.code
    ofP : (i : ℕ) → tree_at P f i ≡ slice_get code i
    ofQ : (i : ℕ) → tree_at Q f i ≡ slice_get (spliced (before f) (behind f) 0 code) i

  both : (f : ℕ) (F : Func) → slice_get P.funcs f ≡ Some F → Both f F
  both f F there =
      let g = partner P Q heads f F there in
      let tP = function_tree (names_of_functions P.funcs) F in
      let tQ = function_tree (names_of_functions Q.funcs) g.0 in
      let hP = function_at P f F there in
      let hQ = function_at Q f g.0 g.1 in
      record {
        code = tP.code;
        size = length-map F.code (item_tree (names_of_functions P.funcs) (variable_names F.vars) F.labels);
        ofP = λ i. tree_at-function P f i tP hP;
        ofQ = λ i. tree_at-function Q f i tQ hQ ∙ ap (λ l. slice_get l i) (sp.functions f tP tQ hP hQ).code;
      }

  -- an item of P that has a tree
  func_of : (f i : ℕ) (a : Item) → tree_at P f i ≡ Some a → (F : Func) × (slice_get P.funcs f ≡ Some F)
  func_of f i a at = by (item_at P f i) refl
    where
      by : (o : Option Instr) → item_at P f i ≡ o → (F : Func) × (slice_get P.funcs f ≡ Some F)
      by None e = absurd (let h = sym (nothing_at P f i e) ∙ at in cc)
      by (Some b) e = let h = found P f i b e in (h.function, h.there)

  code_long : (f : ℕ) (F : Func) → slice_get P.funcs f ≡ Some F → length (code_of P f) ≡ length F.code
  code_long f F e = ap (λ o. length (items_of o)) e

  pub kept-at : (f : ℕ) (F : Func) → slice_get P.funcs f ≡ Some F → (i : ℕ) → i ≤ length (code_of P f) → tree_at P f i ≡ tree_at Q f (old f i)
  kept-at f F there i h =
      let b = both f F there in
      let c = code_long f F there in
      let s = b.size in
      b.ofP i ∙ sym (item-position (before f) (behind f) b.code i (omega arith)) ∙ sym (b.ofQ (old f i))

  pub kept : (f i : ℕ) → IsReached (code_of P f) i → tree_at P f i ≡ tree_at Q f (old f i)
  kept f i reached = by (slice_get P.funcs f) refl
    where
      by : (o : Option Func) → slice_get P.funcs f ≡ o → tree_at P f i ≡ tree_at Q f (old f i)
      by None e = ap (λ o. point_tree (names_of_functions P.funcs) o i) e ∙ sym (no_partner P Q heads f e (old f i))
      by (Some F) e = kept-at f F e i (let w = walk_within (code_of P f) reached.walk reached.is in let z = reached.ends in omega arith)

  item_there : (f i : ℕ) (label : List ℕ) → tree_at P f i ≡ Some (item.Label label) → is_label_item (item_at P f i) ≡ true
  item_there f i label at = let l = label_at P f i label at in ap is_label_item l.at

  -- the path of a laid entry stops inside
  inside : (x : Laying) → In x laid → (fit_path P x.fit).stop ≤ length (code_of P x.fit.function)
  inside x among =
      let l = label_at P x.fit.function x.fit.point (layable x among).label (layable x among).labelled in
      let w = slice_get_within (code_of P x.fit.function) x.fit.point (Label l.number) l.at in
      stop_within (code_of P x.fit.function) x.fit.point 1023 256 x.fit.choices (suc x.fit.point) (omega arith)

  -- whose a stop label is
  pub stop_owner : (f i j m : ℕ) → suc m ≤ stops f i → j + suc m ≡ old f i → (x : Laying) × In x laid × (x.fit.function ≡ f) × ((fit_path P x.fit).stop ≡ i) × (tree_at Q f j ≡ Some (item.Label x.names.stop))
  stop_owner f i j m few e =
      let n : ℕ = stops f i - suc m in
      let line = stop_line P laid f i (stops f i - suc m) (omega arith) in
      let lay = layable line.x line.among in
      let fun = func_of line.x.fit.function line.x.fit.point (item.Label lay.label) lay.labelled in
      let there : slice_get P.funcs f ≡ Some fun.0 = ap (slice_get P.funcs) (sym line.function) ∙ fun.1 in
      let b = both f fun.0 there in
      let c = code_long f fun.0 there in
      let s = b.size in
      let w : i ≤ length (code_of P f) = subst (λ n. i ≤ length (code_of P n)) line.function (subst (λ k. k ≤ length (code_of P line.x.fit.function)) line.stop (inside line.x line.among)) in
      let at : j ≡ start_of (before f) (behind f) i + (stops f i - suc m) = omega arith in
      (line.x, line.among, line.function, line.stop, b.ofQ j ∙ ap (slice_get (spliced (before f) (behind f) 0 b.code)) at ∙ before-position (before f) (behind f) b.code i (stops f i - suc m) (omega arith) (omega arith) ∙ line.is)

  pub stop_label : (f i j m : ℕ) → suc m ≤ stops f i → j + suc m ≡ old f i → (name : List ℕ) × (tree_at Q f j ≡ Some (item.Label name))
  stop_label f i j m few e = let o = stop_owner f i j m few e in (o.0.names.stop, o.4)

  -- none stands before a label
  pub plain_stop : (f i : ℕ) (label : List ℕ) → tree_at P f i ≡ Some (item.Label label) → stops f i ≡ 0
  plain_stop f i label at = none_before P laid f i (item_there f i label at)

  next : (f i : ℕ) (a : Instr) → item_at P f i ≡ Some a → trace_at laid f i ≡ None → suc (old f i) + stops f (suc i) ≡ old f (suc i)
  next f i a at none = let e : length (behind f i) ≡ 0 = ap (λ o. length (lines_behind P bool f i o)) none in omega arith

  -- where an entry's path ends
  stopping : (x : Laying) → In x laid → StopsAt P Q bool old stops x.fit.function (fit_path P x.fit).stop x.names.stop
  stopping x among = by (is_label_item (item_at P x.fit.function (fit_path P x.fit).stop)) refl
    where
      lay : IsLayable P x
      lay = layable x among

      fun : (F : Func) × (slice_get P.funcs x.fit.function ≡ Some F)
      fun = func_of x.fit.function x.fit.point (item.Label lay.label) lay.labelled

      by : (b : Bool) → is_label_item (item_at P x.fit.function (fit_path P x.fit).stop) ≡ b → StopsAt P Q bool old stops x.fit.function (fit_path P x.fit).stop x.names.stop
      by true e = record {
        point = old x.fit.function (fit_path P x.fit).stop;
        at = sym (kept-at x.fit.function fun.0 fun.1 (fit_path P x.fit).stop (inside x among)) ∙ lay.at_label e;
        near = (0, omega arith, omega arith);
      }
      by false e =
          let f = x.fit.function in
          let i = (fit_path P x.fit).stop in
          let s = stop_number P laid x among x.fit.function (fit_path P x.fit).stop refl refl e in
          let less = s.less in
          let b = both x.fit.function fun.0 fun.1 in
          let c = code_long x.fit.function fun.0 fun.1 in
          let z = b.size in
          let w = inside x among in
          record {
            point = start_of (before x.fit.function) (behind x.fit.function) (fit_path P x.fit).stop + s.number;
            at = b.ofQ (start_of (before x.fit.function) (behind x.fit.function) (fit_path P x.fit).stop + s.number) ∙ before-position (before x.fit.function) (behind x.fit.function) b.code (fit_path P x.fit).stop s.number (omega arith) less ∙ s.is;
            near = (stops x.fit.function (fit_path P x.fit).stop - s.number, omega arith, omega arith);
          }

  traced-by : (x : Laying) → In x laid → trace_at laid x.fit.function x.fit.point ≡ Some (trace_of x) → IsTracedAt P Q bool old stops x.fit.function x.fit.point (trace_of x)
  traced-by x among at =
      let lay = layable x among in
      let fun = func_of x.fit.function x.fit.point (item.Label lay.label) lay.labelled in
      let b = both x.fit.function fun.0 fun.1 in
      let lines : behind x.fit.function x.fit.point ≡ trace_lines bool (tree_at P x.fit.function) x.names (fit_path P x.fit).legs = ap (lines_behind P bool x.fit.function x.fit.point) at in
      let long : length (behind x.fit.function x.fit.point) ≡ length (trace_lines bool (tree_at P x.fit.function) x.names (fit_path P x.fit).legs) = ap length lines in
      let here : slice_get b.code x.fit.point ≡ Some (item.Label lay.label) = sym (b.ofP x.fit.point) ∙ lay.labelled in
      record {
        lines = stands-from P Q bool x.fit.function (suc (old x.fit.function x.fit.point)) (trace_lines bool (tree_at P x.fit.function) x.names (fit_path P x.fit).legs)
            (λ n less. b.ofQ (suc (old x.fit.function x.fit.point) + n) ∙ after-position (before x.fit.function) (behind x.fit.function) b.code x.fit.point n (item.Label lay.label) here (omega (arith, less, long)) ∙ ap (λ l. slice_get l n) lines);
        behind = omega (arith, long);
        stop = stopping x among;
        apart = lay.apart;
        label = lay.label;
        labelled = lay.labelled;
        lone = none_before P laid x.fit.function x.fit.point (item_there x.fit.function x.fit.point lay.label lay.labelled);
      }

  pub traced : (f p : ℕ) (t : Trace) → trace_at laid f p ≡ Some t → IsTracedAt P Q bool old stops f p t
  traced f p t at =
      let l = located P laid f p t at in
      subst (λ z. IsTracedAt P Q bool old stops f p z) l.is
      (subst (λ n. IsTracedAt P Q bool old stops n p (trace_of l.x)) l.function
      (subst (λ n. IsTracedAt P Q bool old stops l.x.fit.function n (trace_of l.x)) l.point
      (traced-by l.x l.among (ap (λ n. trace_at laid n l.x.fit.point) l.function ∙ ap (trace_at laid f) l.point ∙ at ∙ ap Some (sym l.is)))))

  pub stitched : Stitched P Q bool
  stitched = record {
    heads = heads;
    old = old;
    stops = stops;
    traces = trace_at laid;
    start = λ f. (stops f 0, omega arith, omega arith);
    few = λ f i. let h = few_stops P laid f i in omega arith;
    kept = kept;
    next = next;
    stop_label = stop_label;
    traced = traced;
  }

  pub traces-are : (f i : ℕ) → stitched.traces f i ≡ trace_at laid f i
  unfolding stitched
  traces-are f i = refl

  pub stitched-owner : (f i j m : ℕ) → suc m ≤ stitched.stops f i → j + suc m ≡ stitched.old f i → (x : Laying) × In x laid × (x.fit.function ≡ f) × ((fit_path P x.fit).stop ≡ i) × (tree_at Q f j ≡ Some (item.Label x.names.stop))
  unfolding stitched
  stitched-owner f i j m few e = stop_owner f i j m few e

  pub stitched-plain : (f i : ℕ) (label : List ℕ) → tree_at P f i ≡ Some (item.Label label) → stitched.stops f i ≡ 0
  unfolding stitched
  stitched-plain f i label at = plain_stop f i label at
