-- One more file.
use Rattle.std.proofs.Common.{◌≡◌, ◌∙◌, ◌≤◌, ◌+◌, ◌∷◌, ◌++◌, ap, sym, subst, arith, length, [], List, Some}
use Rattle.std.proofs.lemmas.List.{length-append}
use Rattle.std.proofs.lemmas.Result.{err_from_is_err_and}
use Rattle.std.specs.Prelude.{slice_get}
use Rattle.bril_outside.specs.Files.{ReadTimes}
use Rattle.import_linker.specs.Order.{all_added, known_after, named_by, named_in}
use Rattle.import_linker.specs.Adding.{AddsTooMany}
use Rattle.bril_tree.specs.declared.import.Import.{Import}
use Rattle.import_linker.specs.Reading.{AreNext, bytes_of}
use Rattle.import_linker.specs.formats.Reading.{most_bytes}
use Rattle.import_linker.specs.declared.sources.Source.{Source}
use Rattle.import_linker.proofs.Knowing.{bytes_more, next_more}
use Rattle.import_linker.proofs.Numbering.{paths_are}
use Rattle.import_linker.proofs.Turning.{all_read, knows, next_is, read_more, refuses_adding, started_more, tried_adding, tried_source}
use Rattle.import_linker.proofs.reading.read_sources.Goals as goal

pub returns-in_err-add_imports-clause-err : goal.returns-in_err-add_imports-clause-err
returns-in_err-add_imports-clause-err g c =
    let at : slice_get c.loop-path.known (length c.loop-path.sources) ≡ Some c.in_ok-path.path =
    ap (λ (l : List Source). slice_get c.loop-path.known (length l)) (sym c.as_slice.ensures) ∙ c.in-Some.ensures ∙ ap Some (sym c.in_ok-path.ensures) in
    let short : c.loop-path.total + c.in_ok-source.source.size ≤ most_bytes = omega (arith, c.in_ok-source.ensures.short, c.loop-path.invariant.short) in
    let e = err_from_is_err_and c.from_residual-in_err-add_imports.result c.from_residual-in_err-add_imports.ensures.1 in
    rw (e.1, e.2)
    (refuses_adding c.args.root.now c.loop-path.sources c.loop-path.known c.loop-path.invariant.known (g.F.Files.seen c.args.files.now) c.loop-path.invariant.read _ c.in_err-add_imports.field-0.0
    (g.F.Files.seen c.loop-path.files).holds c.in_ok-source.source c.in_ok-path.path c.loop-path.total at c.in_ok-source.ensures.path c.loop-path.invariant.holds c.in_ok-source.ensures.read
    c.loop-path.invariant.total short
    (subst (λ (i : List Import). AddsTooMany c.in_err-add_imports.field-0.0 c.loop-path.known (named_in c.in_ok-source.source.path i)) c.as_slice-in-Some.ensures c.in_err-add_imports.ensures.err))

pub returns-in_err-add_imports-clause-tried : goal.returns-in_err-add_imports-clause-tried
returns-in_err-add_imports-clause-tried g c =
    let e = err_from_is_err_and c.from_residual-in_err-add_imports.result c.from_residual-in_err-add_imports.ensures.1 in
    rw (e.1, e.2) (tried_adding _ _ c.args.root.now c.in_err-add_imports.field-0.0 c.loop-path.known (named_in c.in_ok-source.source.path c.as_slice-in-Some.result.now) c.in_err-add_imports.ensures.err)

pub returns-in_err-source-clause-tried : goal.returns-in_err-source-clause-tried
returns-in_err-source-clause-tried g c =
    let at : slice_get c.loop-path.known (length c.loop-path.sources) ≡ Some c.in_ok-path.path =
    ap (λ (l : List Source). slice_get c.loop-path.known (length l)) (sym c.as_slice.ensures) ∙ c.in-Some.ensures ∙ ap Some (sym c.in_ok-path.ensures) in
    let e = err_from_is_err_and c.from_residual-in_err-source.result c.from_residual-in_err-source.ensures.1 in
    rw (e.1, e.2)
    (tried_source c.args.root.now c.loop-path.sources c.loop-path.known c.loop-path.invariant.known (g.F.Files.seen c.args.files.now) c.loop-path.invariant.read
    (g.F.Files.seen c.loop-path.files) (g.F.Files.seen c.read_source.new.files) c.in_err-source.field-0.0 c.in_ok-path.path _ at c.loop-path.invariant.times
    c.in_err-source.ensures.times c.in_err-source.ensures.err)

pub loop-path-preserved : goal.loop-path-preserved
loop-path-preserved g c =
    let at : slice_get c.loop-path.known (length c.loop-path.sources) ≡ Some c.in_ok-path.path =
    ap (λ (l : List Source). slice_get c.loop-path.known (length l)) (sym c.as_slice.ensures) ∙ c.in-Some.ensures ∙ ap Some (sym c.in_ok-path.ensures) in
    let short : c.loop-path.total + c.in_ok-source.source.size ≤ most_bytes = omega (arith, c.in_ok-source.ensures.short, c.loop-path.invariant.short) in
    let sources = c.loop-path.sources in
    let s = c.in_ok-source.source in
    let pushed = c.in_ok-push.ensures.ok in
    let adds : c.add_imports.new.known ≡ all_added c.loop-path.known (named_by s) =
    c.in_ok-add_imports.ensures.ok ∙ ap (λ (i : List Import). all_added c.loop-path.known (named_in s.path i)) c.as_slice-in-Some.ensures in
    let next = next_is c.args.root.now sources c.loop-path.known c.loop-path.invariant.known (g.F.Files.seen c.args.files.now).holds (g.F.Files.seen c.loop-path.files).holds s c.in_ok-path.path
    c.loop-path.total c.add_imports.new.known at c.in_ok-source.ensures.path c.loop-path.invariant.holds c.in_ok-source.ensures.read c.loop-path.invariant.total short
    adds c.in_ok-add_imports.ensures.few in
    record {
      holds = c.in_ok-source.ensures.holds ∙ c.loop-path.invariant.holds;
      faults = omega (arith, c.in_ok-source.ensures.faults, c.loop-path.invariant.faults);
      times = subst (λ (l : List Source). ReadTimes (g.F.Files.seen c.args.files.now) (length l) (g.F.Files.seen c.read_source.new.files)) (sym pushed)
          (read_more (g.F.Files.seen c.args.files.now) (g.F.Files.seen c.loop-path.files) (g.F.Files.seen c.read_source.new.files) sources s c.loop-path.invariant.times c.in_ok-source.ensures.times);
      known = knows c.args.root.now sources c.loop-path.known c.loop-path.invariant.known s c.add_imports.new.known adds
          ∙ sym (ap (known_after c.args.root.now) pushed);
      few = c.in_ok-add_imports.ensures.few;
      started = subst (λ (l : List Source). length l ≤ length c.add_imports.new.known) (sym pushed)
          (started_more c.args.root.now sources c.loop-path.known c.loop-path.invariant.known s c.in_ok-path.path c.add_imports.new.known at adds);
      total = ap (λ n. n + s.size) c.loop-path.invariant.total ∙ sym (bytes_more sources s) ∙ sym (ap bytes_of pushed);
      short = short;
      read = subst (AreNext (g.F.Files.seen c.args.files.now).holds c.args.root.now []) (sym pushed)
          (next_more (g.F.Files.seen c.args.files.now).holds c.args.root.now [] sources s c.loop-path.invariant.read next);
    }

pub loop-path-smaller : goal.loop-path-smaller
loop-path-smaller g c =
    let at : slice_get c.loop-path.known (length c.loop-path.sources) ≡ Some c.in_ok-path.path =
    ap (λ (l : List Source). slice_get c.loop-path.known (length l)) (sym c.as_slice.ensures) ∙ c.in-Some.ensures ∙ ap Some (sym c.in_ok-path.ensures) in
    let sources = c.loop-path.sources in
    let s = c.in_ok-source.source in
    let adds : c.add_imports.new.known ≡ all_added c.loop-path.known (named_by s) =
    c.in_ok-add_imports.ensures.ok ∙ ap (λ (i : List Import). all_added c.loop-path.known (named_in s.path i)) c.as_slice-in-Some.ensures in
    let started = started_more c.args.root.now sources c.loop-path.known c.loop-path.invariant.known s c.in_ok-path.path c.add_imports.new.known at adds in
    let longer : length (sources ++ s ∷ []) ≡ length sources + 1 = length-append sources (s ∷ []) in
    let pushed : length c.push.new.self ≡ length (sources ++ s ∷ []) = ap length c.in_ok-push.ensures.ok in
    let few = c.in_ok-add_imports.ensures.few in
    omega (arith, started, longer, pushed, few)

pub returns-clause-ok : goal.returns-clause-ok
returns-clause-ok g c =
    let known = c.loop-path.known in
    let none = ap (λ (l : List Source). slice_get known (length l)) (sym c.as_slice.ensures) ∙ c.in_default.ensures in
    record {
      read = c.loop-path.invariant.read;
      all = all_read c.args.root.now c.loop-path.sources known c.loop-path.invariant.known none c.loop-path.invariant.started;
    }

pub returns-clause-paths : goal.returns-clause-paths
returns-clause-paths g c =
    let known = c.loop-path.known in
    let none = ap (λ (l : List Source). slice_get known (length l)) (sym c.as_slice.ensures) ∙ c.in_default.ensures in
    let all = all_read c.args.root.now c.loop-path.sources known c.loop-path.invariant.known none c.loop-path.invariant.started in
    c.loop-path.invariant.known ∙ paths_are (g.F.Files.seen c.args.files.now).holds c.args.root.now c.loop-path.sources c.loop-path.invariant.read all
