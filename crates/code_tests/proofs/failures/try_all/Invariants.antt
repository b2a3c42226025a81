use Rattle.std.specs.List.{All}
use Rattle.shipped_passes.specs.Shipped.{MakesAsShipped}
use Rattle.code_tests.proofs.failures.try_all.Given as goal

-- the passes make as the shipped ones do
abbrev pub invariant-loop-before : goal.invariant-loop-before
invariant-loop-before g l = All (λ p. MakesAsShipped ((goal.Pass-dyn g (p.vtable, p.value)).meaning p.value)) l.passes
