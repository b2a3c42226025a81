use Rattle.bril_interpreter.proofs.Known.{dest_at}
use Rattle.bril_interpreter.proofs.interp.Interp.awaited.Goals as goal

pub returns-in-Some-clause-place : goal.returns-in-Some-clause-place
returns-in-Some-clause-place c = rw c.dest_in.ensures (dest_at c.args.self.now.checked.prog c.args.self.now.newest.function c.args.self.now.newest.point c.in-Some.item.now c.in-Some.ensures)
