-- No image was made, or the orders were carried out on it.
use Rattle.std.proofs.Common.{◌≡◌, [], refl, inl, inr, sym, subst}
use Rattle.std.proofs.lemmas.Result.{err_from_is_err_and}
use Rattle.bril_commands.specs.Outcome.{Works}
use Rattle.bril_commands.specs.commands.Monitor.{monitored}
use Rattle.bril_report.specs.StageFaults.{status_of}
use Rattle.bril_tree.specs.Run.{FitMain}
use Rattle.monitor_command.proofs.Carrying.{script_does}
use Rattle.rv64_image_laws.specs.ListsPoints.{ListsPoints}
use Rattle.rv64_image_laws.specs.PointsShown.{Shows}
use Rattle.monitor_command.proofs.command.run_script.Goals as goal

pub returns-in_err-image : goal.returns-in_err-image
returns-in_err-image g c =
    let e = err_from_is_err_and c.from_residual.result c.from_residual.ensures.1 in
    rw (e.1, e.2) (inl ((c.args.settings.limits, (refl, refl), c.in_err-image.ensures.err), (refl, refl)))

pub returns : goal.returns
returns g c =
    let value = c.prog.ensures.value in
    let limits = c.args.settings.limits in
    let shows = subst (λ p. Shows c.in_ok-image.image c.in_ok-image.points p limits) (sym value) c.in_ok-image.ensures.shows in
    let fits = subst (λ p. FitMain p c.args.values.now) (sym value) c.requires in
    let lists = subst (λ p. ListsPoints p c.in_ok-image.points) (sym value) c.in_ok-image.ensures.lists in
    let s = g.O.Sink.seen c.args.out.now in
    let t = g.O.Sink.seen c.run_orders.new.out in
    let how = status_of c.run_orders.result in
    let works : Works (monitored c.prog.result.now c.args.values.now (λ script. script ≡ c.args.orders.now) limits.frames limits.cells c.args.settings.steps) how [] s t =
    script_does how s t c.args.orders.now _ c.run_orders.ensures (record { shows = shows; fits = fits }) lists in
    inr ((limits, (refl, refl), c.in_ok-image.ensures.within), subst (λ p. Works (monitored p c.args.values.now (λ script. script ≡ c.args.orders.now) limits.frames limits.cells c.args.settings.steps) how [] s t) value works)
