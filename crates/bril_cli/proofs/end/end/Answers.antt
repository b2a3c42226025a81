-- The passes make as the shipped ones do, and the status is what the top call promises of the words.
use Rattle.shipped_passes.proofs.Making.{AreShipped-make}
use Rattle.bril_cli.proofs.end.end.Goals as goal

pub bril_top-requires : goal.bril_top-requires
bril_top-requires g c = record { shipped = AreShipped-make (λ p. (goal.Pass-dyn g (p.vtable, p.value)).meaning p.value) c.args.passes.now c.requires.shipped }

pub returns-in-Ok-clause-budget : goal.returns-in-Ok-clause-budget
returns-in-Ok-clause-budget g c = rw c.in-Ok.is (rw c.as_slice.ensures at (c.bril_top.ensures.budget c.requires.shipped))

pub returns-in-Ok-clause-run : goal.returns-in-Ok-clause-run
returns-in-Ok-clause-run g c = rw c.in-Ok.is (rw c.as_slice.ensures at c.bril_top.ensures.run)

pub returns-in-Ok-clause-complete : goal.returns-in-Ok-clause-complete
returns-in-Ok-clause-complete g c = rw c.in-Ok.is (rw c.as_slice.ensures at c.bril_top.ensures.complete)
