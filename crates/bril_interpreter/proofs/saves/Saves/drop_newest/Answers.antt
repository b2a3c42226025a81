use Rattle.bril_interpreter.proofs.SavedLists.{newest_dropped}
use Rattle.bril_interpreter.proofs.saves.Saves.drop_newest.Goals as goal

pub returns-then-self-gt0 : goal.returns-then-self-gt0
returns-then-self-gt0 c = rw (← c.self.view_is) (newest_dropped c.self.inside.lists.items c.self.inside.depth c.if-self-gt0.true c.self.invariant)
