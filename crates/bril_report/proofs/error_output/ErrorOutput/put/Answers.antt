-- A put that fails is the last.
use Rattle.std.proofs.Common.{refl}
use Rattle.bril_report.proofs.Telling.{Told-failure}
use Rattle.bril_report.proofs.error_output.ErrorOutput.put.Goals as goal

pub returns-in-Err : goal.returns-in-Err
returns-in-Err g c = record { same_sink = refl; told = Told-failure c.in-Err.ensures.err c.in-Err.ensures.times c.if-self.false refl }
