use Rattle.std.proofs.Common.{sym}
use Rattle.monitor_script.proofs.Orders.{name_is_text}
use Rattle.monitor_script.proofs.order_text.identifier_in.Goals as goal

pub returns-in-Err : goal.returns-in-Err
returns-in-Err c = absurd (c.in-Err.ensures.cases.0 (name_is_text c.args.name.now (sym c.if-not-is_ident.ensures)))
