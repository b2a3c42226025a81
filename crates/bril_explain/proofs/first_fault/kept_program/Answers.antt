-- The files were not all read, or have no accepted program, or this is it.
use Rattle.std.proofs.Common.{List, Some, inl, refl, subst}
use Rattle.std.proofs.lemmas.Result.{err_from_is_err_and}
use Rattle.bril_commands.specs.Source.{WithImports, IsProgramOf}
use Rattle.import_linker.proofs.Refusals.{by_reading}
use Rattle.bril_explain.specs.Explained.{Refuses}
use Rattle.bril_explain.specs.Kept.{bytes_at, kept_seen}
use Rattle.bril_explain.specs.declared.kept.KeptFile.{KeptFile}
use Rattle.bril_explain.proofs.Placing.{fault_held, held_by_reading, refused}
use Rattle.bril_explain.proofs.Within.{linked_within}
use Rattle.bril_explain.proofs.first_fault.kept_program.Goals as goal

pub returns-in_err-read_files-clause-err : goal.returns-in_err-read_files-clause-err
returns-in_err-read_files-clause-err g c =
    let e = err_from_is_err_and c.from_residual.result c.from_residual.ensures.1 in
    rw (e.1, e.2)
    (inl (c.in_err-read_files.field-0.0, refl, by_reading (g.F.Files.seen c.args.files.now) (g.F.Files.seen c.read_files.new.files) c.args.root.now c.in_err-read_files.field-0.0 c.in_err-read_files.ensures.err))

pub returns-in_err-read_files-clause-fault : goal.returns-in_err-read_files-clause-fault
returns-in_err-read_files-clause-fault g c =
    let e = err_from_is_err_and c.from_residual.result c.from_residual.ensures.1 in
    rw (e.1, e.2)
    (held_by_reading c.read_files.new.kept c.args.root.now (g.F.Files.seen c.args.files.now) (g.F.Files.seen c.read_files.new.files) c.in_err-read_files.field-0.0 c.in_err-read_files.ensures.err c.in_err-read_files.ensures.stops).0

pub returns-in_err-read_files-clause-target : goal.returns-in_err-read_files-clause-target
returns-in_err-read_files-clause-target g c =
    let e = err_from_is_err_and c.from_residual.result c.from_residual.ensures.1 in
    rw (e.1, e.2)
    (held_by_reading c.read_files.new.kept c.args.root.now (g.F.Files.seen c.args.files.now) (g.F.Files.seen c.read_files.new.files) c.in_err-read_files.field-0.0 c.in_err-read_files.ensures.err c.in_err-read_files.ensures.stops).1

pub returns-in_err-checked-clause-err : goal.returns-in_err-checked-clause-err
returns-in_err-checked-clause-err g c =
    let e = err_from_is_err_and c.from_residual-in_err-checked.result c.from_residual-in_err-checked.ensures.1 in
    let kept = c.read_files.new.kept in
    let seen = kept_seen c.accepted.new.files.list.now in
    let how = c.in_err-checked.field-0.0 in
    let refuses : Refuses how (kept_seen kept) seen c.args.root.now = subst (λ (k : List KeptFile). Refuses how (kept_seen k) seen c.args.root.now) c.as_slice.ensures c.in_err-checked.ensures.err in
    rw (e.1, e.2)
    (refused kept c.args.root.now c.in_ok-read_files.ensures.ok (g.F.Files.seen c.args.files.now) (g.F.Files.seen c.read_files.new.files) c.in_ok-read_files.ensures.are seen refl how refuses)

pub returns-in_err-checked-clause-fault : goal.returns-in_err-checked-clause-fault
returns-in_err-checked-clause-fault g c =
    let e = err_from_is_err_and c.from_residual-in_err-checked.result c.from_residual-in_err-checked.ensures.1 in
    let kept = c.read_files.new.kept in
    let seen = kept_seen c.accepted.new.files.list.now in
    let how = c.in_err-checked.field-0.0 in
    let refuses : Refuses how (kept_seen kept) seen c.args.root.now = subst (λ (k : List KeptFile). Refuses how (kept_seen k) seen c.args.root.now) c.as_slice.ensures c.in_err-checked.ensures.err in
    rw (e.1, e.2)
    (fault_held kept c.args.root.now c.in_ok-read_files.ensures.ok (g.F.Files.seen c.args.files.now) (g.F.Files.seen c.read_files.new.files) c.in_ok-read_files.ensures.are seen how refuses).0

pub returns-in_err-checked-clause-target : goal.returns-in_err-checked-clause-target
returns-in_err-checked-clause-target g c =
    let e = err_from_is_err_and c.from_residual-in_err-checked.result c.from_residual-in_err-checked.ensures.1 in
    let kept = c.read_files.new.kept in
    let seen = kept_seen c.accepted.new.files.list.now in
    let how = c.in_err-checked.field-0.0 in
    let refuses : Refuses how (kept_seen kept) seen c.args.root.now = subst (λ (k : List KeptFile). Refuses how (kept_seen k) seen c.args.root.now) c.as_slice.ensures c.in_err-checked.ensures.err in
    rw (e.1, e.2)
    (fault_held kept c.args.root.now c.in_ok-read_files.ensures.ok (g.F.Files.seen c.args.files.now) (g.F.Files.seen c.read_files.new.files) c.in_ok-read_files.ensures.are seen how refuses).1

pub returns-clause-ok : goal.returns-clause-ok
returns-clause-ok g c =
    let kept = c.read_files.new.kept in
    let p = c.in_ok-checked.checked.prog in
    let is : IsProgramOf WithImports (Some (bytes_at kept)) c.args.root.now p =
    subst (λ (k : List KeptFile). IsProgramOf WithImports (Some (bytes_at k)) c.args.root.now p) c.as_slice.ensures c.in_ok-checked.ensures.ok in
    record {
      tree = is.tree;
      file = linked_within (Some (bytes_at kept)) (g.F.Files.seen c.args.files.now).holds c.in_ok-read_files.ensures.are c.args.root.now is.tree is.file;
      only = is.only;
      accepted = is.accepted;
    }
