-- The name is told after what stands before it.
use Rattle.bril_report.proofs.Telling.{Tells-append}
use Rattle.bril_report.proofs.report.put_named.Goals as goal

pub returns : goal.returns
returns g c = Tells-append g.E.Sink.seen c.put_placed.ensures c.put_all.ensures
