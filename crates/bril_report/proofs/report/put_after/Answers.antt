-- The position is told after the path.
use Rattle.bril_report.proofs.Telling.{Tells-append}
use Rattle.bril_report.proofs.report.put_after.Goals as goal

pub returns : goal.returns
returns g c = Tells-append g.E.Sink.seen c.put.ensures c.put_placed.ensures
