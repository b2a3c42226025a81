-- The numbers of a program with traces, function by function.
use Rattle.bril_tree.specs.declared.function_tree.Item.TheVariants as item
use Rattle.std.proofs.Common.{◌≡◌, ℕ, suc, ◌+◌, ◌*◌, ◌<◌, ◌≤◌, List, [], ◌∷◌, length, max, Some, sym, ap, subst, ◌∙◌, arith}
use Rattle.std.specs.Prelude.{slice_get}
use Rattle.std.proofs.lemmas.List.{length-map}
use Rattle.bril_tree.specs.declared.numbered_function.Func.{Func}
use Rattle.bril_tree.specs.declared.program.Prog.{Prog}
use Rattle.bril_tree.specs.declared.types.Ty.{Ty}
use Rattle.bril_tree.specs.Accepted.{IsAccepted, IsAcceptedFunction}
use Rattle.bril_tree.specs.Edge.{Branch}
use Rattle.program_numbers.specs.Entries.{IsEntryCount, IsEntryWidth}
use Rattle.bril_tree.specs.FrameWords.{IsDepth}
use Rattle.bril_tree.specs.Membership.{In}
use Rattle.bril_tree.specs.Numbered.{tree_at, tree_of}
use Rattle.bril_tree.specs.Sites.{AreSitesSound, sites_of, most_sites}
use Rattle.bril_tree.specs.Step.{code_of, items_of}
use Rattle.bril_tree.specs.Walk.{IsWalk, IsReached, end_of}
use Rattle.bril_tree.proofs.Elements.{All-at}
use Rattle.pass_edit_laws.proofs.lemmas.acceptance.Heads.{start_matched}
use Rattle.pass_edit_laws.specs.names.NamedPlan.{SameHeads}
use Rattle.pass_edit_laws.specs.numbers.Numbers.{FunctionGrows, Growth, NumbersGrow, adding}
use Rattle.pass_edit_laws.proofs.lemmas.numbers.Arguments.{no-longer-arguments}
use Rattle.pass_edit_laws.proofs.lemmas.numbers.Items.{unchanged}
use Rattle.pass_edit_laws.proofs.lemmas.numbers.Locations.{accepted-locations}
use Rattle.pass_edit_laws.proofs.lemmas.numbers.Programs.{functions_grow}
use Rattle.pass_edit_laws.proofs.lemmas.numbers.Shares.{shares-few}
use Rattle.pass_edit_laws.specs.walks.Matched.{MatchedWalk}
use Rattle.trace_laws.specs.lines.Traced.{Laying, AreLaid, IsLaid, Trace}
use Rattle.trace_laws.specs.lines.Names.{Bases, trace_bases}
use Rattle.bril_profile.specs.declared.profile.Entry.{Entry}
use Rattle.trace_paths.specs.Fits.{Fit, IsFit, count_of}
use Rattle.trace_paths.specs.Taken.{taken}
use Rattle.trace_laws.specs.refinement.Stitched.{Stitched}
use Rattle.trace_laws.proofs.lemmas.lines.Layings.{IsLayable, Located, located}
use Rattle.trace_laws.proofs.lemmas.refinement.Laying.{stitched, heads, traces-are, stitched-owner, stitched-plain}
use Rattle.trace_laws.proofs.lemmas.refinement.Plans.{M, tracing}
use Rattle.trace_laws.proofs.lemmas.growth.Entering.{laid_in, entries-within, width-within}
use Rattle.trace_laws.proofs.lemmas.growth.Deepening.{depth-within}
use Rattle.std.specs.List.{sum_by}
use Rattle.std.proofs.lemmas.List.Sums.{sum_by-cons}
use Rattle.trace_laws.specs.lines.Lines.{bool_type}
use Rattle.trace_laws.specs.lines.Bound.{laid_count}
use Rattle.trace_laws.specs.growth.Numbers.{TraceKeepsNumbers, trace_growth}
use Rattle.trace_laws.proofs.lemmas.growth.NewItems.{all_nots, all_laid, nots-few, of-items}
use Rattle.trace_laws.proofs.lemmas.acceptance.Accepted.{traces-accepted}
use Rattle.trace_laws.proofs.lemmas.lines.Entries.{layable, laid-of, fit-of, fits-few, laid-few, taken-few}

-- ---- the program

module _ (bases : Bases) (P Q : Prog) (bool : Ty) (entries : List Entry) (accepted : IsAccepted P) (few : length entries ≤ 64) (l : IsLaid bases P bool entries (tree_of Q)) where
  most : length l.laid ≤ 64
  most = let a = fits-few P [] entries l.fits l.are_fits in let b = laid-few bases P 1 l.fits l.laid l.are_laid in omega arith

  lay : (x : Laying) → In x l.laid → IsLayable P x
  lay = layable bases P entries l.fits l.laid l.are_fits l.are_laid

  abbrev st : Stitched P Q bool
  st = stitched P Q bool l.laid lay most l.spliced_so

  fit-here : (x : Laying) → In x l.laid → (e : Entry) × IsFit P e x.fit
  fit-here x among = fit-of P [] entries l.fits x.fit l.are_fits (laid-of bases P 1 l.fits l.laid x l.are_laid among).among

  module _ (f : ℕ) (F G : Func) (p : slice_get P.funcs f ≡ Some F) (q : slice_get Q.funcs f ≡ Some G) where
    owner : (i : ℕ) (t : Trace) → st.traces f i ≡ Some t → Located P l.laid f i t
    owner i t is = located P l.laid f i t (sym (traces-are P Q bool l.laid lay most l.spliced_so f i) ∙ is)

    roomy : (i : ℕ) (t : Trace) → st.traces f i ≡ Some t → (w : List Branch) → IsWalk (code_of P f) w → end_of w ≡ i → length (sites_of (code_of P f) w) < most_sites
    roomy i t is w walk ends =
        let o = owner i t is in
        subst (λ n. length (sites_of (code_of P n) w) < most_sites) o.function ((fit-here o.x o.among).1.few w (subst (λ n. IsWalk (code_of P n) w) (sym o.function) walk) (ends ∙ sym o.point))

    reached : (i : ℕ) (t : Trace) → st.traces f i ≡ Some t → IsReached (code_of P f) i
    reached i t is =
        let o = owner i t is in
        subst (λ n. IsReached (code_of P f) n) o.point (subst (λ n. IsReached (code_of P n) o.x.fit.point) o.function (fit-here o.x o.among).1.reached)

    labelled : (x : Laying) → In x l.laid → x.fit.function ≡ f → (label : List ℕ) × (tree_at P f x.fit.point ≡ Some (item.Label label))
    labelled x among e = ((lay x among).label, ap (λ n. tree_at P n x.fit.point) (sym e) ∙ (lay x among).labelled)

    start : MatchedWalk (M P Q bool accepted st) P Q f F.args G.args []
    start = start_matched P Q (heads P Q bool l.laid lay most l.spliced_so) f F G p q (tracing P Q bool accepted st) (st.start f)

    sound : AreSitesSound (code_of P f)
    sound = subst AreSitesSound (sym (ap items_of p)) (All-at (IsAcceptedFunction P) P.funcs f F accepted.functions p).sites

    function-entries : (d e : ℕ) → IsEntryCount F.code d → IsEntryCount G.code e → e ≤ d + 3 * length (laid_in f l.laid)
    function-entries =
        entries-within P Q bool accepted st l.laid f F G p q roomy start
        (λ i j m. stitched-owner P Q bool l.laid lay most l.spliced_so f i j m)
        (λ i t is. let o = owner i t is in (o.x, o.among, o.function, o.point, ap (λ (z : Trace). z.names) o.is))
        (λ i label. stitched-plain P Q bool l.laid lay most l.spliced_so f i label) labelled reached

    function-width : (d e : ℕ) → IsEntryWidth F.code d → IsEntryWidth G.code e → e ≤ max d 1
    function-width =
        width-within P Q bool accepted st l.laid f F G p q roomy start
        (λ i j m. stitched-owner P Q bool l.laid lay most l.spliced_so f i j m)
        (λ i t is. let o = owner i t is in (o.x, o.among, o.function, o.point, ap (λ (z : Trace). z.names) o.is))
        (λ i label. stitched-plain P Q bool l.laid lay most l.spliced_so f i label) labelled reached

    function-depth : (d e : ℕ) → IsDepth F.code d → IsDepth G.code e → (e ≤ suc d) × (e ≤ 8)
    function-depth d e a b =
        depth-within P Q bool accepted st f F.args G.args sound roomy start d e (subst (λ c. IsDepth c d) (sym (ap items_of p)) a) (subst (λ c. IsDepth c e) (sym (ap items_of q)) b)

  same-heads : SameHeads P Q
  same-heads = heads P Q bool l.laid lay most l.spliced_so

  laid-sum : (K : ℕ) (fits : List Fit) (laid : List Laying) → AreLaid bases P K fits laid → all_laid P laid ≤ sum_by (laid_count P) fits
  laid-sum K [] laid h = let e = ap (all_laid P) h in omega arith
  laid-sum K (x ∷ fits) [] h = absurd h
  laid-sum K (x ∷ fits) (y ∷ laid) h = let r = laid-sum (suc K) fits laid h.2 in let e = ap (laid_count P) h.0 in let s = sum_by-cons (laid_count P) x fits in omega arith

  abbrev growth : Growth
  growth = trace_growth (length l.fits) (sum_by (laid_count P) l.fits)

  -- three entries for each trace of the function
  abbrev more : ℕ → ℕ
  more f = 3 * length (laid_in f l.laid)

  function-grows : IsAccepted Q → (f : ℕ) (F G : Func) → slice_get P.funcs f ≡ Some F → slice_get Q.funcs f ≡ Some G → FunctionGrows (adding growth (more f)) F G
  function-grows accepted_q f F G p q =
      let of_items = of-items P Q bool l.laid l.spliced_so f F G p q in
      record {
        locations =
            let few = accepted-locations unchanged (all_nots P (laid_in f l.laid)) F G of_items Q accepted_q f q in
            let n = nots-few P f l.laid in
            let s = laid-sum 1 l.fits l.laid l.are_laid in
            omega arith;
        arguments = no-longer-arguments unchanged (all_nots P (laid_in f l.laid)) F G of_items;
        depth = λ d e a b. let r = function-depth f F G p q d e a b in let x = r.0 in let y = r.1 in omega arith;
        entries = function-entries f F G p q;
        width = λ d e a b. let w = function-width f F G p q d e a b in omega arith;
      }

  pub numbers : IsAccepted Q → NumbersGrow P Q growth
  numbers accepted_q =
      functions_grow P Q growth more accepted
      (record { locations = λ m n less. omega arith; arguments = λ m n less. less; depth = λ m n less. omega arith; width = λ m n less. omega arith })
      (λ n. let s = shares-few (λ (x : Laying). x.fit.function) 3 l.laid 0 (length P.funcs) in let few_laid = laid-few bases P 1 l.fits l.laid l.are_laid in omega arith)
      (sym (length-map P.funcs (λ (f : Func). f.name)) ∙ ap length same-heads.names ∙ length-map Q.funcs (λ (f : Func). f.name))
      (function-grows accepted_q)

pub trace-keeps_numbers : TraceKeepsNumbers
trace-keeps_numbers P Q profile accepted made = numbers trace_bases P Q bool_type (taken count_of profile.entries) accepted (taken-few profile) made (traces-accepted P Q profile accepted made)
