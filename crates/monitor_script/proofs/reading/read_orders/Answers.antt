use Rattle.std.proofs.Common.{◌∷◌, ◌++◌, ap, subst, sym, ◌∙◌}
use Rattle.std.proofs.lemmas.Result.{err_from_is_err_and}
use Rattle.monitor_script.specs.Form.{IsOrder, order_line}
use Rattle.monitor_script.proofs.Cuts.{nonempty}
use Rattle.monitor_script.proofs.Faults.{fault_at, less_left, read_more}
use Rattle.monitor_script.proofs.reading.read_orders.Goals as goal

pub returns-in_err-text-clause-fault : goal.returns-in_err-text-clause-fault
returns-in_err-text-clause-fault c =
    let p = err_from_is_err_and c.from_residual.result c.from_residual.ensures.1 in
    rw (p.1, p.2)
    (fault_at c.args.source.now c.lines.rest.now c.lines.before c.in_err-text.field-0.0 (record { orders = c.lines.orders; so_far = c.lines.invariant.read }) (nonempty c.lines.rest.now c.is_empty.result c.is_empty.ensures c.lines-test.true)
    c.in_err-text.ensures.fault)

pub lines-preserved : goal.lines-preserved
lines-preserved c =
    let order = c.in_ok-own_order.field-0 in
    let same = c.in_ok-own_order.ensures in
    let found = c.in_ok-text.ensures.found ∙ ap (λ z. order_line z ++ 10 ∷ c.in_ok-text.after.now) (sym same) in
    record {
      read = read_more c.args.source.now c.lines.rest.now c.in_ok-text.after.now c.lines.before c.lines.orders c.push.new.self order c.lines.invariant.read c.in_ok-push.ensures.ok (subst IsOrder (sym same) c.in_ok-text.ensures.valid) found;
      within = less_left c.args.source.now c.lines.rest.now (order_line order) c.in_ok-text.after.now c.lines.before c.lines.invariant.within found;
    }
