-- The words spell ints for which there is room, or their fault is answered.
use Rattle.std.proofs.lemmas.Result.{err_from_is_err_and}
use Rattle.bytes_commands.proofs.Refusals.{refuses_ints}
use Rattle.bytes_commands.proofs.execute.values_of.Goals as goal

pub returns-in_err-values-clause-err : goal.returns-in_err-values-clause-err
returns-in_err-values-clause-err c =
    let e = err_from_is_err_and c.from_residual.result c.from_residual.ensures.1 in
    rw (e.1, e.2) (refuses_ints c.args.image.now c.args.args.now c.in_err-values.field-0.0 c.in_err-values.ensures.fault)
