-- A tree with traces can be numbered.
use Rattle.std.proofs.Common.{◌≡◌, ℕ, suc, ◌<◌, ◌≤◌, true, List, [], length, All, Option, Some, None, refl, sym, ap, subst, ◌∙◌, arith}
use Rattle.std.specs.Prelude.{slice_get}
use Rattle.std.specs.List.{AllZip}
use Rattle.std.proofs.lemmas.Option.{same_Some, slice_get-map, slice_get_within}
use Rattle.bril_names.specs.Faults.{Differ, IsKnown, IsSound, IsSoundEdit, function_names, labels_of}
use Rattle.bril_names.proofs.Sound.{sound_tree}
use Rattle.bril_profile.specs.declared.profile.Entry.{Entry}
use Rattle.bril_tree.specs.declared.function_tree.FuncTree.{FuncTree}
use Rattle.bril_tree.specs.declared.function_tree.Item.{Item}
use Rattle.bril_tree.specs.declared.function_tree.Item.TheVariants as item
use Rattle.bril_tree.specs.declared.numbered_function.Func.{Func}
use Rattle.bril_tree.specs.declared.program.Prog.{Prog}
use Rattle.bril_tree.specs.declared.tree.Tree.{Tree}
use Rattle.bril_tree.specs.declared.types.Ty.{Ty}
use Rattle.bril_tree.specs.Membership.{In}
use Rattle.bril_tree.specs.Numbered.{function_tree, item_tree, names_of_functions, tree_at, tree_of, variable_names}
use Rattle.pass_edit_laws.specs.plan.Spliced.{spliced}
use Rattle.std.specs.Option.{option_map}
use Rattle.std.proofs.lemmas.List.{length-map}
use Rattle.bril_tree.specs.Step.{code_of, item_at, items_of}
use Rattle.bril_tree.proofs.Elements.{get_in}
use Rattle.bril_tree.proofs.Trees.{tree_at-function, tree_of-numbered}
use Rattle.pass_edit_laws.proofs.lemmas.plan.Elements.{all_in, in_all, zip-by_place}
use Rattle.pass_edit_laws.proofs.lemmas.labels.Listed.{label-known}
use Rattle.trace_laws.specs.lines.Laws.{TracesAreWellLaid}
use Rattle.trace_laws.specs.lines.Lines.{bool_type}
use Rattle.trace_laws.specs.lines.Names.{AreBases, Bases, is_label_item, trace_bases}
use Rattle.trace_laws.specs.lines.Traced.{IsLaid, Laying, lines_behind, stop_lines, trace_at}
use Rattle.trace_laws.proofs.lemmas.lines.Bases.{trace_names}
use Rattle.trace_laws.proofs.lemmas.lines.Bound.{laid-within}
use Rattle.trace_laws.proofs.lemmas.lines.Differing.{laid-differ}
use Rattle.trace_laws.proofs.lemmas.lines.Entries.{fits-few, laid-few, layable, taken-few}
use Rattle.trace_laws.proofs.lemmas.lines.Known.{laid-known}
use Rattle.trace_laws.proofs.lemmas.lines.Layings.{IsLayable, stop_within}
use Rattle.trace_paths.specs.Fits.{count_of, fit_path}
use Rattle.trace_paths.specs.Taken.{taken}

same-long : (P : Prog) (f : ℕ) (F : FuncTree) → slice_get (tree_of P).funcs f ≡ Some F → length (code_of P f) ≡ length F.code
same-long P f F p = by (slice_get P.funcs f) refl
  where
    tree : Func → FuncTree
    tree X = function_tree (names_of_functions P.funcs) X

    by : (o : Option Func) → slice_get P.funcs f ≡ o → length (code_of P f) ≡ length F.code
    by None e = absurd (let h : None ≡ Some F = sym (slice_get-map tree P.funcs f ∙ ap (option_map tree) e) ∙ p in cc)
    by (Some X) e =
        let same : tree X ≡ F = same_Some (tree X) F (sym (slice_get-map tree P.funcs f ∙ ap (option_map tree) e) ∙ p) in
        ap (λ o. length (items_of o)) e ∙ sym (length-map X.code (item_tree (names_of_functions P.funcs) (variable_names X.vars) X.labels)) ∙ ap (λ (t : FuncTree). length t.code) same

module _ (bases : Bases) (ok : AreBases bases) (P : Prog) (bool : Ty) (entries : List Entry) (few : length entries ≤ 64) (tree : Tree) (l : IsLaid bases P bool entries tree) where
  most : length l.laid ≤ 64
  most = let a = fits-few P [] entries l.fits l.are_fits in let b = laid-few bases P 1 l.fits l.laid l.are_laid in omega arith

  abbrev functions : List (List ℕ)
  functions = function_names (tree_of P)

  abbrev laid : ℕ → FuncTree → List Item
  laid f F = spliced (stop_lines P l.laid f) (λ i. lines_behind P bool f i (trace_at l.laid f i)) 0 F.code

  module _ (f : ℕ) (F G : FuncTree) (p : slice_get (tree_of P).funcs f ≡ Some F) (q : slice_get tree.funcs f ≡ Some G) where
    of : (i : ℕ) → tree_at P f i ≡ slice_get F.code i
    of i = tree_at-function P f i F p

    sound : IsSound functions F
    sound = all_in (IsSound functions) (tree_of P).funcs (sound_tree (tree_of P) P (tree_of-numbered P)).sound F (get_in (tree_of P).funcs f F p)

    was-known : (a : Item) → In a F.code → IsKnown functions (labels_of F.code) a
    was-known a among = all_in (IsKnown functions (labels_of F.code)) F.code sound.known a among

    lay : (x : Laying) → In x l.laid → IsLayable P x
    lay = layable bases P entries l.fits l.laid l.are_fits l.are_laid

    long : length (code_of P f) ≡ length F.code
    long = same-long P f F p

    inside : (x : Laying) → In x l.laid → x.fit.function ≡ f → (x.fit.point < length F.code) × ((fit_path P x.fit).stop ≤ length F.code)
    inside x among e =
        let at : slice_get F.code x.fit.point ≡ Some (item.Label (lay x among).label) = sym (of x.fit.point) ∙ ap (λ n. tree_at P n x.fit.point) (sym e) ∙ (lay x among).labelled in
        let w = slice_get_within F.code x.fit.point (item.Label (lay x among).label) at in
        let same : length (code_of P x.fit.function) ≡ length F.code = ap (λ n. length (code_of P n)) e ∙ long in
        let s = stop_within (code_of P x.fit.function) x.fit.point 1023 256 x.fit.choices (suc x.fit.point) (omega arith) in
        (w, omega arith)

    edited : IsSoundEdit functions F G
    edited =
        let made = l.spliced_so.functions f F G p q in
        record {
          head = made.head;
          labels = subst (λ c. Differ (labels_of c)) (sym made.code) (laid-differ bases ok P bool f (label-known P f) l.fits l.laid l.are_laid most F.code of);
          known = subst (λ c. All (IsKnown functions (labels_of c)) c) (sym made.code)
              (in_all (IsKnown functions (labels_of (laid f F))) (laid f F) (laid-known P bool f l.laid functions F.code of was-known inside
              (λ x among e. subst (λ n. is_label_item (item_at P n (fit_path P x.fit).stop) ≡ true → tree_at P n (fit_path P x.fit).stop ≡ Some (item.Label x.names.stop)) e (lay x among).at_label)));
        }

  pub laid-sound : AllZip (IsSoundEdit functions) (tree_of P).funcs tree.funcs
  laid-sound = zip-by_place (IsSoundEdit functions) (tree_of P).funcs tree.funcs l.spliced_so.many edited

pub traces-well_laid : TracesAreWellLaid
traces-well_laid P profile tree made = record {
  names = laid-sound trace_bases trace_names P bool_type (taken count_of profile.entries) (taken-few profile) tree made;
  within = laid-within trace_bases P bool_type (taken count_of profile.entries) tree made;
}
