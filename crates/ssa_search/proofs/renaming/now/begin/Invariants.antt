use Rattle.std.proofs.Common.{◌≡◌, ℕ, ◌<◌, ◌*◌}
use Rattle.std.specs.Prelude.{length, slice_index}
use Rattle.ssa_search.proofs.renaming.now.begin.Given as goal

abbrev pub invariant-loop-x : goal.invariant-loop-x
invariant-loop-x l = record { long : length l.definitions.items ≡ 2 * l.x; own : (y : ℕ) → y < l.x → slice_index l.definitions.items (2 * y) ≡ y }
