-- An entry of a profile, and whether it fits.
use Rattle.std.proofs.Common.{◌≡◌, ◌≢◌, ℕ, ◌<◌, ◌≤◌, List, [], length, get_or, Option, Some, None, sym, ap, subst, ◌∙◌}
use Rattle.std.specs.Prelude.{slice_get}
use Rattle.std.specs.List.{Contains}
use Rattle.std.proofs.lemmas.List.{get_or-map, length-map}
use Rattle.std.proofs.lemmas.Option.{slice_get_within}
use Rattle.bril_names.proofs.Functions.{Differ-functions}
use Rattle.bril_names.proofs.Naming.{one_number}
use Rattle.bril_profile.specs.declared.profile.Entry.{Entry}
use Rattle.bril_tree.specs.declared.function_tree.Item.TheVariants as item
use Rattle.bril_tree.specs.declared.numbered.Instr.TheVariants.{Label}
use Rattle.bril_tree.specs.declared.numbered_function.Func.{Func}
use Rattle.bril_tree.specs.declared.program.Prog.{Prog}
use Rattle.bril_tree.specs.Numbered.{named, names_of_functions, tree_at}
use Rattle.bril_tree.specs.Step.{code_of, items_of, point_of}
use Rattle.bril_tree.specs.Membership.{In}
use Rattle.bril_tree.proofs.LabelPoints.{label-point}
use Rattle.bril_tree.proofs.Members.{contains_in}
use Rattle.pass_edit_laws.specs.labels.Fresh.{labels_here}
use Rattle.pass_edit_laws.proofs.lemmas.labels.Listed.{label-known}
use Rattle.pass_edit_laws.proofs.lemmas.names.Points.{label_found, label_once}
use Rattle.trace_stitcher.specs.declared.matching.fitting.Fitting.{Fitting}
use Rattle.trace_stitcher.specs.matching.Fitting.{IsFound, IsFoundAt, MaySpeculate, candidate, fit_of, seen_of}
use Rattle.trace_paths.specs.Fits.{Fit, IsFit, Repeats, fit_path}
use Rattle.trace_paths.specs.Path as path
use Rattle.trace_paths.specs.Path.{path_of}

pub name-read : (funcs : List Func) (k : ℕ) (F : Func) → k < length funcs → F ≡ get_or funcs k F → named (names_of_functions funcs) k ≡ F.name
name-read funcs k F within is = get_or-map (λ (f : Func). f.name) funcs k F [] within ∙ ap (λ (f : Func). f.name) (sym is)

module _ (P : Prog) (e : Entry) (among : List Fitting) (f : ℕ) (F : Func) (there : slice_get P.funcs f ≡ Some F) (within : f < length (names_of_functions P.funcs)) (named_so : named (names_of_functions P.funcs) f ≡ e.func) where
  function-is : (y : Fit) → IsFit P e y → y.function ≡ f
  function-is y fit = one_number (names_of_functions P.funcs) (Differ-functions P) y.function f fit.function within (fit.named_so ∙ sym named_so)

  code-is : code_of P f ≡ F.code
  code-is = ap items_of there

  pub no-label : ¬ Contains F.labels e.label → IsFound P e among None
  no-label none y fit = absurd (none (contains_in e.label F.labels (subst (λ o. In e.label (labels_here o)) there (label-known P f y.point e.label (ap (λ n. tree_at P n y.point) (sym (function-is y fit)) ∙ fit.label)))))

  module _ (l : ℕ) (low : l < length F.labels) (is_label : named F.labels l ≡ e.label) where
    label-at : tree_at P f (point_of l F.code) ≡ Some (item.Label e.label)
    label-at = ap (λ code. tree_at P f (point_of l code)) (sym code-is) ∙ label_found P f F l there low ∙ ap (λ n. Some (item.Label n)) is_label

    fit-is : (y : Fit) → IsFit P e y → y ≡ candidate f (point_of l F.code) e.choices
    fit-is y fit =
        let g = function-is y fit in
        let p : y.point ≡ point_of l F.code = label_once P f y.point (point_of l F.code) e.label (ap (λ n. tree_at P n y.point) (sym g) ∙ fit.label) label-at in
        λ i. record { function = g i; point = p i; choices = fit.choices i }

    speculates : (y : Fit) → IsFit P e y → MaySpeculate F.code (point_of l F.code)
    speculates y fit = subst (λ (z : Fit). MaySpeculate F.code z.point) (fit-is y fit)
        (subst (λ code. MaySpeculate code y.point) (ap (code_of P) (function-is y fit) ∙ code-is) (record { reached = fit.reached; few = fit.few }))

    lays : (y : Fit) → IsFit P e y → (path_of F.code (point_of l F.code) e.choices).legs ≢ []
    lays y fit none = fit.lays ((λ i. (path_of (code_of P (fit-is y fit i).function) (fit-is y fit i).point (fit-is y fit i).choices).legs) ∙ ap (λ code. (path_of code (point_of l F.code) e.choices).legs) code-is ∙ none)

    pub none-fits : IsFoundAt F.code f (point_of l F.code) e.choices among None → IsFound P e among None
    none-fits h y fit = subst (Repeats (seen_of among [])) (sym (fit-is y fit)) (h (speculates y fit) (lays y fit))

    pub one-fits : (x : Fitting) → IsFoundAt F.code f (point_of l F.code) e.choices among (Some x) → IsFound P e among (Some x)
    one-fits x h =
        let function : x.function ≡ f = ap (λ (z : Fit). z.function) h.is in
        let point : x.point ≡ point_of l F.code = ap (λ (z : Fit). z.point) h.is in
        let code : code_of P x.function ≡ F.code = ap (code_of P) function ∙ code-is in
        let same_path : fit_path P (fit_of x) ≡ path_of F.code (point_of l F.code) e.choices = (λ i. path_of (code_of P (h.is i).function) (h.is i).point (h.is i).choices) ∙ ap (λ z. path_of z (point_of l F.code) e.choices) code-is in
        let may : MaySpeculate (code_of P x.function) x.point = subst (λ z. MaySpeculate z x.point) (sym code) (subst (MaySpeculate F.code) (sym point) h.may) in (
          record {
            function = subst (λ n. n < length (names_of_functions P.funcs)) (sym function) within;
            named_so = ap (named (names_of_functions P.funcs)) function ∙ named_so;
            label = (λ i. tree_at P (function i) (point i)) ∙ label-at;
            choices = ap (λ (z : Fit). z.choices) h.is;
            reached = may.reached;
            few = may.few;
            lays = λ none. h.lays (ap (λ (p : path.Path). p.legs) (sym same_path) ∙ none);
          },
          (λ r. h.new (subst (Repeats (seen_of among [])) h.is r)),
          record {
            legs = h.legs ∙ ap (λ (p : path.Path). p.legs) (sym same_path);
            stop = h.stop ∙ ap (λ (p : path.Path). p.stop) (sym same_path);
            function = subst (λ n. n < length P.funcs) (sym function) (subst (λ n. f < n) (length-map P.funcs (λ (g : Func). g.name)) within);
            point = subst (λ n. n < length (code_of P x.function)) (sym point) (subst (λ z. point_of l F.code < length z) (sym code) (slice_get_within F.code (point_of l F.code) (Label l) (label-point l (length F.labels) F.code F.formed.placed low)));
            within = subst (λ z. x.path.stop ≤ length z) (sym code) h.within;
          },
          h.apart,
        )

    pub found-there : (o : Option Fitting) → IsFoundAt F.code f (point_of l F.code) e.choices among o → IsFound P e among o
    found-there None h = none-fits h
    found-there (Some x) h = one-fits x h
