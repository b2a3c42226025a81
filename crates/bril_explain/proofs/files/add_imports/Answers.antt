-- One more import.
use Rattle.std.proofs.Common.{◌∙◌, ◌<◌, ap, sym, arith, length, take}
use Rattle.std.proofs.lemmas.Result.{err_from_is_err_and}
use Rattle.import_linker.specs.Order.{added, all_added, joined, named_in}
use Rattle.import_linker.proofs.Knowing.{adds_too_many, all_added-append, named_more, named_taken}
use Rattle.bril_explain.proofs.files.add_imports.Goals as goal

pub loop-import-preserved : goal.loop-import-preserved
loop-import-preserved c =
    let lt : c.loop-import.import-index < length c.args.imports.now = omega arith in
    let before = named_in c.args.importer.now (take c.loop-import.import-index c.args.imports.now) in
    record {
      known = c.in_ok-add_path.ensures.ok ∙ ap (λ path. added c.loop-import.known path) c.in_ok-path.ensures
          ∙ ap (λ known. added known (joined c.args.importer.now c.import-item.result.path)) c.loop-import.invariant.known
          ∙ sym (ap (all_added c.args.known.now) (named_more c.args.importer.now c.args.imports.now c.loop-import.import-index c.import-item.result lt c.import-item.is)
          ∙ all_added-append c.args.known.now before _);
      few = c.in_ok-add_path.ensures.few;
    }

pub returns-clause-ok : goal.returns-clause-ok
returns-clause-ok c =
    c.loop-import.invariant.known ∙ ap (all_added c.args.known.now) (named_taken c.args.importer.now c.args.imports.now c.loop-import.import-index c.loop-import-test.false)

pub returns-in_err-add_path-clause-err : goal.returns-in_err-add_path-clause-err
returns-in_err-add_path-clause-err c =
    let lt : c.loop-import.import-index < length c.args.imports.now = omega arith in
    let e = err_from_is_err_and c.from_residual-in_err-add_path.result c.from_residual-in_err-add_path.ensures.1 in
    rw (e.1, e.2)
    (adds_too_many c.in_err-add_path.field-0.0 c.args.known.now c.loop-import.known c.args.importer.now c.in_ok-path.path c.args.imports.now c.loop-import.import-index c.import-item.result lt
    c.import-item.is c.loop-import.invariant.known c.in_ok-path.ensures c.in_err-add_path.ensures.err)
