use Rattle.std.proofs.Common.{[], ◌∷◌, ◌++◌, refl}
use Rattle.std.proofs.lemmas.Result.{err_from_is_err_and}
use Rattle.monitor_script.specs.Form.{order_line, order_of}
use Rattle.monitor_script.proofs.Cuts.{nonempty}
use Rattle.monitor_script.proofs.Faults.{fault_at, less_left, read_more}
use Rattle.monitor_script.proofs.reading.look_at_lines.Goals as goal

pub returns-in_err-after-clause-fault : goal.returns-in_err-after-clause-fault
returns-in_err-after-clause-fault c =
    let p = err_from_is_err_and c.from_residual.result c.from_residual.ensures.1 in
    rw (p.1, p.2)
    (fault_at c.args.source.now c.lines.rest.now c.lines.before c.in_err-after.field-0.0 c.lines.invariant.read (nonempty c.lines.rest.now c.is_empty.result c.is_empty.ensures c.lines-test.true) c.in_err-after.ensures.fault)

pub lines-preserved : goal.lines-preserved
lines-preserved c =
    let order = order_of c.in_ok-after.field-0-0 in
    let read = c.lines.invariant.read in
    record {
      read = record {
        orders = read.orders ++ order ∷ [];
        so_far = read_more c.args.source.now c.lines.rest.now c.in_ok-after.after.now c.lines.before read.orders (read.orders ++ order ∷ []) order read.so_far refl c.in_ok-after.ensures.valid c.in_ok-after.ensures.found;
      };
      within = less_left c.args.source.now c.lines.rest.now (order_line order) c.in_ok-after.after.now c.lines.before c.lines.invariant.within c.in_ok-after.ensures.found;
    }
