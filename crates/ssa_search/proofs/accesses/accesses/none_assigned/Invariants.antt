use Rattle.std.proofs.Common.{◌≡◌, ℕ, ◌*◌, length}
use Rattle.std.specs.Prelude.{slice_index}
use Rattle.ssa_search.proofs.accesses.accesses.none_assigned.Given as goal

abbrev pub invariant-loop-x : goal.invariant-loop-x
invariant-loop-x l = record {
  long : length l.last.items ≡ 2 * l._x;
  none : (x : ℕ) → slice_index l.last.items x ≡ 0;
}
