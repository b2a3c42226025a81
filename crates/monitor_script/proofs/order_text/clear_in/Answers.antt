use Rattle.monitor_script.proofs.Orders.{no_clear}
use Rattle.monitor_script.proofs.order_text.clear_in.Goals as goal

pub returns-in_default-point_in : goal.returns-in_default-point_in
returns-in_default-point_in c = no_clear c.args.line.now c.in-Some.rest.now c.in-Some.ensures c.in_default-point_in.ensures
