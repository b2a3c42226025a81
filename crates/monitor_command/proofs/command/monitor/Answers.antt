-- The arguments spell no values, or there is no script, or its orders are carried out.
use Rattle.std.proofs.Common.{[], refl, inl, inr, ⊎_elim}
use Rattle.std.proofs.lemmas.Result.{err_from_is_err_and}
use Rattle.bril_commands.specs.Scripts.{IsScriptAt}
use Rattle.bril_report.specs.StageFaults.{status_of}
use Rattle.bril_words.specs.Seen.{text_seen}
use Rattle.monitor_command.proofs.Carrying.{works_script}
use Rattle.monitor_command.proofs.command.monitor.Goals as goal

pub returns-in_err-values-clause-does : goal.returns-in_err-values-clause-does
returns-in_err-values-clause-does g c =
    let e = err_from_is_err_and c.from_residual.result c.from_residual.ensures.1 in
    rw (e.1, e.2) (inl (rw c.prog.ensures.value at c.in_err-values.ensures.err, (refl, refl)))

pub returns-in_err-orders-clause-does : goal.returns-in_err-orders-clause-does
returns-in_err-orders-clause-does g c =
    let e = err_from_is_err_and c.from_residual-in_err-orders.result c.from_residual-in_err-orders.ensures.1 in
    let are = rw c.prog.ensures.value at c.in_ok-values.ensures.ok in
    rw (e.1, e.2) (inr (c.in_ok-values.values, are, inl (c.in_err-orders.ensures.err, (refl, refl))))

pub returns-clause-does : goal.returns-clause-does
returns-clause-does g c =
    let are = rw c.prog.ensures.value at c.in_ok-values.ensures.ok in
    let is = c.in_ok-orders.ensures.ok in
    let did = rw c.as_slice.ensures at (rw c.as_slice-2.ensures at c.run_script.ensures) in
    let settings = c.args.settings in
    inr (
      c.in_ok-values.values,
      are,
      inr (
        c.in_ok-orders.orders,
        is,
        ⊎_elim inl
            (λ went. inr (went.0, works_script c.args.checked.now.prog c.in_ok-values.values c.in_ok-orders.orders (IsScriptAt (text_seen c.args.request.second) (g.F.Files.seen c.args.files.now).holds) settings.limits.frames settings.limits.cells settings.steps is (status_of c.run_script.result) [] _ _ went.1)) did,
      ),
    )
