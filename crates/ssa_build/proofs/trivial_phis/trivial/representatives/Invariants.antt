use Rattle.std.proofs.Common.{◌≡◌, ℕ, ◌<◌, ◌+◌, ◌*◌, true, if◌then◌else◌}
use Rattle.std.specs.Prelude.{length, slice_index}
use Rattle.ssa_build.specs.trivial_phis.Trivial.{IsWork, standing}
use Rattle.ssa_build.proofs.trivial_phis.trivial.representatives.Given as goal

abbrev pub invariant-loop-again : goal.invariant-loop-again
invariant-loop-again l = record {
  work : IsWork l.operands l.base l.work.classes l.work.gone.items l.work.ends.items l.work.firsts.items;
  all : l.full ≡ true → (length l.todo.items ≡ l.operands.gets) × ((t : ℕ) → t < l.operands.gets → slice_index l.todo.items t ≡ t);
}

abbrev pub decreases-loop-again : goal.decreases-loop-again
decreases-loop-again l = 2 * standing l.work.gone.items + (if l.full then 0 else 1)
