-- The first orders were carried out.
use Rattle.std.proofs.Common.{drop}
use Rattle.monitor_command.specs.Carried.{CameTo, IsShown}
use Rattle.monitor_command.proofs.orders.carry_out.Given as goal

abbrev pub invariant-loop-order : goal.invariant-loop-order
invariant-loop-order g l = (is : IsShown l.on) → CameTo l.on is l.orders (drop l.order-index l.orders) l.progress (g.O.Sink.seen l.initial.out) (g.O.Sink.seen l.out)
