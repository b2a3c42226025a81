-- After a failure the first bytes were written.
use Rattle.bril_outside.proofs.Buffered.{Writes-some}
use Rattle.bril_outside.proofs.os_sink.write_whole.Goals as goal

pub returns : goal.returns
returns g c = Writes-some _ _ c.write_first-done.result.0 c.args.bytes.now c.write_first-done.result.1 c.write_first-done.ensures.all c.write_first-done.ensures.grew
