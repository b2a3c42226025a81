use Rattle.std.proofs.Common.{◌≡◌}
use Rattle.std.specs.Prelude.{length}
use Rattle.ssa_build.proofs.trivial_phis.trivial.empty_lists.Given as goal

abbrev pub invariant-loop : goal.invariant-loop
invariant-loop l = length l.lists.items ≡ l.counter
