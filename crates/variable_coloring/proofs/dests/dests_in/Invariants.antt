use Rattle.std.proofs.Common.{◌≡◌, ◌+◌, ◌<◌, ℕ, suc, length, Some, None}
use Rattle.std.specs.Prelude.{slice_index_or}
use Rattle.variable_renaming.specs.Clashes.{Clashes}
use Rattle.variable_coloring.proofs.dests.dests_in.Given as goal

abbrev pub invariant-loop-point : goal.invariant-loop-point
invariant-loop-point l = record {
  long : length l.dests.items ≡ l.point + 1;
  dests : (item y x : ℕ) → item < l.point → Clashes l.func.code item y x → slice_index_or l.dests.items (suc item) None ≡ Some y;
}
