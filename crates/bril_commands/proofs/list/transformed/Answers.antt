-- A fault of the list has its status.
use Rattle.std.proofs.lemmas.Result.{err_from_is_err_and}
use Rattle.bril_commands.proofs.Outcomes.{RefusesList-of}
use Rattle.bril_commands.proofs.list.transformed.Goals as goal

pub returns-in_err-run_list-clause-err : goal.returns-in_err-run_list-clause-err
returns-in_err-run_list-clause-err g c =
    let e = err_from_is_err_and c.from_residual.result c.from_residual.ensures.1 in
    rw (e.1, e.2) (RefusesList-of _ _ _ _ _ _ c.args.profile.now c.in_err-run_list.field-0.0 c.in_err-run_list.ensures.stopped)
