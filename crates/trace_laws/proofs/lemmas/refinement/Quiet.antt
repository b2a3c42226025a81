-- What stands between the `speculate` of a trace and its `commit`.
use Rattle.bril_tree.specs.declared.function_tree.Item.TheVariants as item
use Rattle.std.proofs.Common.{◌≡◌, ℕ, zero, suc, ◌+◌, ◌-◌, ◌<◌, ◌≤◌, List, [], ◌∷◌, ◌++◌, length, Some, None, sym, ap, subst, ◌∙◌, arith}
use Rattle.std.specs.Prelude.{slice_get}
use Rattle.std.proofs.lemmas.List.{length-append}
use Rattle.std.proofs.lemmas.Option.{same_Some, slice_get_within}
use Rattle.bril_profile.specs.declared.profile.Profile.{Profile}
use Rattle.bril_tree.specs.declared.function_tree.Item.{Item}
use Rattle.bril_tree.specs.declared.numbered.Instr.TheVariants.{Label}
use Rattle.bril_tree.specs.declared.program.Prog.{Prog}
use Rattle.bril_tree.specs.declared.types.Ty.{Ty}
use Rattle.bril_tree.specs.Membership.{In}
use Rattle.bril_tree.specs.Numbered.{tree_at}
use Rattle.trace_paths.specs.Fits.{count_of}
use Rattle.trace_paths.specs.Path.{path_of}
use Rattle.trace_paths.specs.Taken.{taken}
use Rattle.bril_tree.specs.Step.{code_of}
use Rattle.bril_tree.specs.Walk.{IsReached}
use Rattle.bril_tree.proofs.Elements.{get_in, get_inside}
use Rattle.pass_edit_laws.proofs.lemmas.names.Points.{found}
use Rattle.pass_edit_laws.proofs.lemmas.names.Standing.{label_at}
use Rattle.trace_laws.specs.lines.Laws.{IsQuiet}
use Rattle.trace_laws.specs.lines.Lines.{bool_type, end_lines, leg_lines}
use Rattle.trace_laws.specs.lines.Names.{trace_bases}
use Rattle.trace_laws.specs.lines.Traced.{IsTraced, Laying, Trace, trace_at}
use Rattle.trace_laws.proofs.lemmas.lines.Entries.{fit-of, fits-few, laid-few, laid-of, layable, taken-few}
use Rattle.trace_laws.proofs.lemmas.lines.Layings.{IsLayable, located}
use Rattle.trace_laws.proofs.lemmas.lines.Quiet.{lines-quiet}
use Rattle.trace_laws.specs.refinement.Laws.{HasQuietTrace, TracesAreQuiet}
use Rattle.trace_laws.specs.refinement.Stitched.{IsTracedAt, Stands}
use Rattle.trace_laws.proofs.lemmas.refinement.Laying.{kept, kept-at, old, stop_label, stops, traced}
use Rattle.trace_laws.proofs.lemmas.refinement.Refining.{stands_append}

-- one of the items that stand from a point on
stands-at : (P Q : Prog) (bool : Ty) (f j : ℕ) (xs ys : List Item) → Stands P Q bool f j (xs ++ ys) → (k : ℕ) (a : Item) → slice_get xs k ≡ Some a → tree_at Q f (j + k) ≡ Some a
stands-at P Q bool f j [] ys s k a e = absurd (let n : None ≡ Some a = e in cc)
stands-at P Q bool f j (x ∷ xs) ys s zero a e = let z : j + zero ≡ j = omega arith in ap (tree_at Q f) z ∙ s.0 ∙ e
stands-at P Q bool f j (x ∷ xs) ys s (suc k) a e = let z : j + suc k ≡ suc j + k = omega arith in ap (tree_at Q f) z ∙ stands-at P Q bool f (suc j) xs ys s.1 k a e

module _ (P Q : Prog) (profile : Profile) (made : IsTraced P profile Q) (f point : ℕ) (t : Trace) (at : trace_at made.laid f point ≡ Some t) where
  pub lay : (x : Laying) → In x made.laid → IsLayable P x
  lay = layable trace_bases P (taken count_of profile.entries) made.fits made.laid made.are_fits made.are_laid

  pub most : length made.laid ≤ 64
  most = let a = fits-few P [] (taken count_of profile.entries) made.fits made.are_fits in let b = laid-few trace_bases P 1 made.fits made.laid made.are_laid in let c = taken-few profile in omega arith

  abbrev label : ℕ
  label = old P Q bool_type made.laid lay most made.spliced_so f point

  abbrev legs : List Item
  legs = leg_lines bool_type (tree_at P f) t.names 0 (path_of (code_of P f) point t.choices).legs

  abbrev ends : List Item
  ends = end_lines bool_type (tree_at P f) t.names

  trace : IsTracedAt P Q bool_type (old P Q bool_type made.laid lay most made.spliced_so) (stops P Q bool_type made.laid lay most made.spliced_so) f point t
  trace = traced P Q bool_type made.laid lay most made.spliced_so f point t at

  pub reached : IsReached (code_of P f) point
  reached =
      let l = located P made.laid f point t at in
      let fit = fit-of P [] (taken count_of profile.entries) made.fits l.x.fit made.are_fits (laid-of trace_bases P 1 made.fits made.laid l.x made.are_laid l.among).among in
      subst (λ n. IsReached (code_of P f) n) l.point (subst (λ n. IsReached (code_of P n) l.x.fit.point) l.function fit.1.reached)

  -- what stands behind the laid items
  tail : Stands P Q bool_type f (suc (suc label) + length legs) ends
  tail = stands_append P Q bool_type f (suc (suc label)) legs ends trace.lines.1

  -- the old code behind the trace
  abbrev between : ℕ
  between = stops P Q bool_type made.laid lay most made.spliced_so f (suc point)

  next : suc (suc label) + length legs + 3 + between ≡ old P Q bool_type made.laid lay most made.spliced_so f (suc point)
  next = let b = trace.behind in let l = length-append legs ends in omega arith

  follows : tree_at P f (suc point) ≡ tree_at Q f (suc (suc label) + length legs + 3 + between)
  follows =
      let l = label_at P f point trace.label trace.labelled in
      let h = found P f point (Label l.number) l.at in
      kept-at P Q bool_type made.laid lay most made.spliced_so f h.function h.there (suc point) (let w = slice_get_within (code_of P f) point (Label l.number) l.at in omega arith) ∙ ap (tree_at Q f) (sym next)

  labelled : (k : ℕ) → k < between → (name : List ℕ) × (tree_at Q f (suc (suc label) + length legs + 3 + k) ≡ Some (item.Label name))
  labelled k less = stop_label P Q bool_type made.laid lay most made.spliced_so f (suc point) (suc (suc label) + length legs + 3 + k) (between - suc k) (omega arith) (let n = next in omega (arith, n, less))

  has-quiet : HasQuietTrace P Q f point t
  has-quiet = record {
    label = label;
    size = length legs;
    stands = kept P Q bool_type made.laid lay most made.spliced_so f point reached;
    opens = trace.lines.0;
    closes = tail.0;
    bails = (let z : suc (suc label) + length legs + 2 ≡ suc (suc (suc (suc label) + length legs)) = omega arith in ap (tree_at Q f) z ∙ tail.1.1.0);
    quiet = λ k a less stands.
        let x = get_inside legs k less in
        let same : x.0 ≡ a = same_Some x.0 a (sym (stands-at P Q bool_type f (suc (suc label)) legs ends trace.lines.1 k x.0 x.1) ∙ stands) in
        subst (IsQuiet t.names.bail) same (lines-quiet P f bool_type t.names x.0 point t.choices (get_in legs k x.0 x.1));
    between = between;
    follows = follows;
    labelled = labelled;
  }

pub traces-quiet : TracesAreQuiet
traces-quiet P Q profile made f point t at = has-quiet P Q profile made f point t at
