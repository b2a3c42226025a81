-- The bytes are those of the file, or there are too many, or they weren't read.
use Rattle.std.proofs.Common.{refl}
use Rattle.std.proofs.lemmas.Result.{err_from_is_err_and}
use Rattle.import_linker.specs.declared.fault.LinkFault.TheVariants as link
use Rattle.bril_commands.specs.Source.{BytesAlone}
use Rattle.bril_commands.proofs.Reading.{RefusesTree-of}
use Rattle.bril_commands.proofs.source.file_bytes.Goals as goal

pub returns-in_err-path-clause-err : goal.returns-in_err-path-clause-err
returns-in_err-path-clause-err g c =
    let e = err_from_is_err_and c.from_residual.result c.from_residual.ensures.1 in
    rw (e.1, e.2) (link.Memory, refl, tt)

pub returns-in-Ok-false-clause-err : goal.returns-in-Ok-false-clause-err
returns-in-Ok-false-clause-err g c =
    let long = rw c.in-Ok-false.field-0-test at c.in-Ok-false.ensures.ok in
    RefusesTree-of BytesAlone link.TooManyBytes _ _ _ _ c.in_ok-path.path c.in_ok-path.ensures refl (long.bytes, long.held, long.long)

pub returns-in-Err-Failed-clause-err : goal.returns-in-Err-Failed-clause-err
returns-in-Err-Failed-clause-err g c =
    RefusesTree-of BytesAlone (link.Read c.in_ok-path.path) _ _ _ _ c.in_ok-path.path c.in_ok-path.ensures refl (refl, c.in-Err-Failed.ensures.failed c.in-Err-Failed.field-0-is)

pub returns-clause-err : goal.returns-clause-err
returns-clause-err g c = (link.Memory, refl, tt)
