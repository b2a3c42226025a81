-- The passes make as the shipped ones do.
use Rattle.shipped_passes.proofs.Making.{AreShipped-make}
use Rattle.code_tests.proofs.failures.try_shipped.Goals as goal

pub try_all-requires : goal.try_all-requires
try_all-requires g c = AreShipped-make (λ p. (goal.Pass-dyn g (p.vtable, p.value)).meaning p.value) c.args.passes.now c.requires
