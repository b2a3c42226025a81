-- The rest is told after the first piece.
use Rattle.bril_report.proofs.Telling.{Tells-append}
use Rattle.bril_report.proofs.error_output.ErrorOutput.+put_all.Goals as goal

pub returns-in-Some : goal.returns-in-Some
returns-in-Some g t c = rw c.in-Some.ensures.cases.0 (Tells-append g.E.Sink.seen c.put.ensures c.put_all.ensures)
