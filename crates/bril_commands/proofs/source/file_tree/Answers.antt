-- The tree is that of the file, or its fault has its status.
use Rattle.std.proofs.Common.{refl}
use Rattle.std.proofs.lemmas.Result.{err_from_is_err_and}
use Rattle.bril_report.specs.StageFaults.{link_status}
use Rattle.import_linker.specs.declared.fault.LinkFault.TheVariants as link
use Rattle.bril_commands.specs.Source.{Alone}
use Rattle.bril_commands.proofs.Reading.{IsFileTree-of, RefusesTree-of}
use Rattle.bril_commands.proofs.source.file_tree.Goals as goal

pub returns-in_err-path-clause-err : goal.returns-in_err-path-clause-err
returns-in_err-path-clause-err g c =
    let e = err_from_is_err_and c.from_residual.result c.from_residual.ensures.1 in
    rw (e.1, e.2) (link.Memory, refl, tt)

pub returns-in_err-source-clause-err : goal.returns-in_err-source-clause-err
returns-in_err-source-clause-err g c =
    let e = err_from_is_err_and c.from_residual-in_err-source.result c.from_residual-in_err-source.ensures.1 in
    let why = c.in_err-source.field-0.0 in
    rw (e.1, e.2) (RefusesTree-of Alone why (link_status why) _ _ _ c.in_ok-path.path c.in_ok-path.ensures refl c.in_err-source.ensures.err)

pub returns-clause-ok : goal.returns-clause-ok
returns-clause-ok g c = IsFileTree-of _ c.in_ok-source.source _ c.in_ok-path.path c.in_ok-path.ensures c.in_ok-source.ensures.path c.in_ok-source.ensures.short c.in_ok-source.ensures.read
