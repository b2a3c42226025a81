-- One more file.
use Rattle.std.proofs.Common.{◌≡◌, ◌∙◌, ◌⊎◌, ℕ, ap, sym, subst, arith, length, List, Option, Some, None}
use Rattle.std.proofs.lemmas.Result.{err_from_is_err_and}
use Rattle.std.specs.Prelude.{slice_get}
use Rattle.bril_outside.specs.Files.{FileMap}
use Rattle.bril_tree.specs.declared.import.Import.{Import}
use Rattle.import_linker.specs.Adding.{AddsTooMany}
use Rattle.import_linker.specs.Order.{all_added, named_by, named_in}
use Rattle.bril_explain.specs.Kept.{Keeps}
use Rattle.bril_explain.specs.declared.kept.KeptFile.{KeptFile}
use Rattle.bril_explain.proofs.SoFar.{all_kept, fewer_left, not_kept, one_more, still, still_of, stops_adding, stops_in, stops_reading}
use Rattle.bril_explain.proofs.files.read_files.Goals as goal

-- the path that is next
next_at : (known known' : List (List ℕ)) (kept kept' : List KeptFile) (found : Option (List ℕ)) → known' ≡ known → kept' ≡ kept → slice_get known' (length kept') ≡ found → slice_get known (length kept) ≡ found
next_at known known' kept kept' found same_known same_kept at =
    ap (λ (l : List (List ℕ)). slice_get l (length kept)) (sym same_known) ∙ ap (λ (k : List KeptFile). slice_get known' (length k)) (sym same_kept) ∙ at

pub read_next-requires-clause-first : goal.read_next-requires-clause-first
read_next-requires-clause-first g c =
    let at : slice_get c.loop-path.known (length c.loop-path.kept) ≡ Some c.in_ok-path.path =
    next_at c.loop-path.known c.as_slice.result.now c.loop-path.kept c.as_slice-in-loop-path.result.now (Some c.in_ok-path.path) c.as_slice.ensures c.as_slice-in-loop-path.ensures
    (c.in-Some.ensures ∙ ap Some (sym (c.in_ok-path.ensures ∙ c.as_str.ensures))) in
    not_kept c.loop-path.kept c.args.root.now c.loop-path.known c.loop-path.total c.loop-path.invariant.far c.in_ok-path.path at

pub returns-in_err-source-clause-are : goal.returns-in_err-source-clause-are
returns-in_err-source-clause-are g c =
    still_of (g.F.Files.seen c.args.files.now).holds c.in_ok-path.path c.loop-path.kept c.read_next.new.kept
    (subst (λ (h : Option FileMap). (c.read_next.new.kept ≡ c.loop-path.kept) ⊎ Keeps h c.in_ok-path.path c.loop-path.kept c.read_next.new.kept) c.loop-path.invariant.holds c.in_err-source.ensures.keeps)
    c.loop-path.invariant.are

pub returns-in_err-source-clause-err : goal.returns-in_err-source-clause-err
returns-in_err-source-clause-err g c =
    let at : slice_get c.loop-path.known (length c.loop-path.kept) ≡ Some c.in_ok-path.path =
    next_at c.loop-path.known c.as_slice.result.now c.loop-path.kept c.as_slice-in-loop-path.result.now (Some c.in_ok-path.path) c.as_slice.ensures c.as_slice-in-loop-path.ensures
    (c.in-Some.ensures ∙ ap Some (sym (c.in_ok-path.ensures ∙ c.as_str.ensures))) in
    let e = err_from_is_err_and c.from_residual-in_err-source.result c.from_residual-in_err-source.ensures.1 in
    rw (e.1, e.2)
    (stops_reading c.loop-path.kept c.args.root.now c.loop-path.known c.loop-path.total c.loop-path.invariant.far (g.F.Files.seen c.args.files.now) (g.F.Files.seen c.loop-path.files)
    (g.F.Files.seen c.read_next.new.files) c.loop-path.invariant.are c.loop-path.invariant.holds c.in_ok-path.path at c.in_err-source.field-0.0 c.loop-path.invariant.faults c.in_err-source.ensures.err)

pub returns-in_err-source-clause-stops : goal.returns-in_err-source-clause-stops
returns-in_err-source-clause-stops g c =
    let at : slice_get c.loop-path.known (length c.loop-path.kept) ≡ Some c.in_ok-path.path =
    next_at c.loop-path.known c.as_slice.result.now c.loop-path.kept c.as_slice-in-loop-path.result.now (Some c.in_ok-path.path) c.as_slice.ensures c.as_slice-in-loop-path.ensures
    (c.in-Some.ensures ∙ ap Some (sym (c.in_ok-path.ensures ∙ c.as_str.ensures))) in
    let e = err_from_is_err_and c.from_residual-in_err-source.result c.from_residual-in_err-source.ensures.1 in
    rw (e.1, e.2)
    (stops_in c.loop-path.kept c.args.root.now c.loop-path.known c.loop-path.total c.loop-path.invariant.far c.read_next.new.kept
    (still (g.F.Files.seen c.loop-path.files).holds c.in_ok-path.path c.loop-path.kept c.read_next.new.kept c.in_err-source.ensures.keeps) c.in_ok-path.path at c.in_err-source.field-0.0 c.in_err-source.ensures.refused)

pub returns-in_err-add_imports-clause-are : goal.returns-in_err-add_imports-clause-are
returns-in_err-add_imports-clause-are g c =
    still_of (g.F.Files.seen c.args.files.now).holds c.in_ok-path.path c.loop-path.kept c.read_next.new.kept
    (subst (λ (h : Option FileMap). (c.read_next.new.kept ≡ c.loop-path.kept) ⊎ Keeps h c.in_ok-path.path c.loop-path.kept c.read_next.new.kept) c.loop-path.invariant.holds c.in_ok-source.ensures.keeps)
    c.loop-path.invariant.are

pub returns-in_err-add_imports-clause-err : goal.returns-in_err-add_imports-clause-err
returns-in_err-add_imports-clause-err g c =
    let at : slice_get c.loop-path.known (length c.loop-path.kept) ≡ Some c.in_ok-path.path =
    next_at c.loop-path.known c.as_slice.result.now c.loop-path.kept c.as_slice-in-loop-path.result.now (Some c.in_ok-path.path) c.as_slice.ensures c.as_slice-in-loop-path.ensures
    (c.in-Some.ensures ∙ ap Some (sym (c.in_ok-path.ensures ∙ c.as_str.ensures))) in
    let e = err_from_is_err_and c.from_residual-in_err-add_imports.result c.from_residual-in_err-add_imports.ensures.1 in
    rw (e.1, e.2)
    (stops_adding c.loop-path.kept c.args.root.now c.loop-path.known c.loop-path.total c.loop-path.invariant.far (g.F.Files.seen c.args.files.now) (g.F.Files.seen c.loop-path.files)
    (g.F.Files.seen c.read_next.new.files) c.loop-path.invariant.are c.loop-path.invariant.holds c.in_ok-path.path at c.in_err-add_imports.field-0.0 c.in_ok-source.source c.in_ok-source.ensures.path
    c.in_ok-source.ensures.read c.in_ok-source.ensures.short
    (subst (λ (i : List Import). AddsTooMany c.in_err-add_imports.field-0.0 c.loop-path.known (named_in c.in_ok-source.source.path i)) c.as_slice-in-Some.ensures c.in_err-add_imports.ensures.err))

pub loop-path-preserved : goal.loop-path-preserved
loop-path-preserved g c =
    let s = c.in_ok-source.source in
    let at : slice_get c.loop-path.known (length c.loop-path.kept) ≡ Some c.in_ok-path.path =
    next_at c.loop-path.known c.as_slice.result.now c.loop-path.kept c.as_slice-in-loop-path.result.now (Some c.in_ok-path.path) c.as_slice.ensures c.as_slice-in-loop-path.ensures
    (c.in-Some.ensures ∙ ap Some (sym (c.in_ok-path.ensures ∙ c.as_str.ensures))) in
    let adds : c.add_imports.new.known ≡ all_added c.loop-path.known (named_by s) =
    c.in_ok-add_imports.ensures.ok ∙ ap (λ (i : List Import). all_added c.loop-path.known (named_in s.path i)) c.as_slice-in-Some.ensures in
    record {
      holds = c.in_ok-source.ensures.holds ∙ c.loop-path.invariant.holds;
      faults = omega (arith, c.in_ok-source.ensures.faults, c.loop-path.invariant.faults);
      are = still_of (g.F.Files.seen c.args.files.now).holds c.in_ok-path.path c.loop-path.kept c.read_next.new.kept
          (subst (λ (h : Option FileMap). (c.read_next.new.kept ≡ c.loop-path.kept) ⊎ Keeps h c.in_ok-path.path c.loop-path.kept c.read_next.new.kept) c.loop-path.invariant.holds c.in_ok-source.ensures.keeps)
          c.loop-path.invariant.are;
      far = one_more c.loop-path.kept c.args.root.now c.loop-path.known c.loop-path.total c.loop-path.invariant.far c.in_ok-path.path at c.read_next.new.kept s c.add_imports.new.known
          c.in_ok-source.ensures.source c.in_ok-source.ensures.path c.in_ok-source.ensures.short adds c.in_ok-add_imports.ensures.few;
    }

pub loop-path-smaller : goal.loop-path-smaller
loop-path-smaller g c =
    let s = c.in_ok-source.source in
    let at : slice_get c.loop-path.known (length c.loop-path.kept) ≡ Some c.in_ok-path.path =
    next_at c.loop-path.known c.as_slice.result.now c.loop-path.kept c.as_slice-in-loop-path.result.now (Some c.in_ok-path.path) c.as_slice.ensures c.as_slice-in-loop-path.ensures
    (c.in-Some.ensures ∙ ap Some (sym (c.in_ok-path.ensures ∙ c.as_str.ensures))) in
    let adds : c.add_imports.new.known ≡ all_added c.loop-path.known (named_by s) =
    c.in_ok-add_imports.ensures.ok ∙ ap (λ (i : List Import). all_added c.loop-path.known (named_in s.path i)) c.as_slice-in-Some.ensures in
    fewer_left c.loop-path.kept c.args.root.now c.loop-path.known c.loop-path.total c.loop-path.invariant.far c.in_ok-path.path at c.read_next.new.kept s c.add_imports.new.known
    c.in_ok-source.ensures.source c.in_ok-source.ensures.path c.in_ok-source.ensures.short adds c.in_ok-add_imports.ensures.few

pub returns-clause-ok : goal.returns-clause-ok
returns-clause-ok g c =
    all_kept c.loop-path.kept c.args.root.now c.loop-path.known c.loop-path.total c.loop-path.invariant.far
    (next_at c.loop-path.known c.as_slice.result.now c.loop-path.kept c.as_slice-in-loop-path.result.now None c.as_slice.ensures c.as_slice-in-loop-path.ensures c.in_default.ensures)
