use Rattle.bril_text.proofs.WritingLists.{repeat_written}
use Rattle.bril_text.proofs.writing.terminal.put_times.Goals as goal

pub loop-done-preserved : goal.loop-done-preserved
loop-done-preserved c = repeat_written c.loop-done._done c.args.into.now c.args.piece.now c.loop-done.into c.add.new.self c.loop-done.invariant c.in_ok-add.ensures.ok
