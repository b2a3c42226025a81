-- The words were executed and what they print was handed on, or one of the two failed.
use Rattle.std.proofs.Common.{refl}
use Rattle.std.proofs.lemmas.Result.{err_from_is_err_and}
use Rattle.bril_commands.specs.commands.Execute.{execution}
use Rattle.bytes_commands.proofs.Stopped.{run_unflushed, run_whole}
use Rattle.bytes_commands.specs.Stopping.{stop_seen}
use Rattle.bytes_commands.proofs.run.run_image.Goals as goal

pub returns-in_err-stopped : goal.returns-in_err-stopped
returns-in_err-stopped g c =
    let e = err_from_is_err_and c.from_residual.result c.from_residual.ensures.1 in
    rw (e.1, e.2) (refl, c.in_err-stopped.ensures.err)

pub returns-in_err-hand_on : goal.returns-in_err-hand_on
returns-in_err-hand_on g c =
    let e = err_from_is_err_and c.from_residual-in_err-hand_on.result c.from_residual-in_err-hand_on.ensures.1 in
    let o = execution c.args.image.now c.args.values.now c.args.settings.limits.cells c.args.settings.steps in
    rw (e.1, e.2) (refl, run_unflushed o (stop_seen c.in_ok-stopped.stopped) _ _ _ c.in_ok-stopped.ensures.ok c.in_err-hand_on.ensures.kept c.in_err-hand_on.ensures.err)

pub returns : goal.returns
returns g c =
    let o = execution c.args.image.now c.args.values.now c.args.settings.limits.cells c.args.settings.steps in
    rw c.answer_of.ensures (run_whole o (stop_seen c.in_ok-stopped.stopped) _ _ _ c.in_ok-stopped.ensures.ok c.in_ok-hand_on.ensures.kept c.in_ok-hand_on.ensures.ok)
