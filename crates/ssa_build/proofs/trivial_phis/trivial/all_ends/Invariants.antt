use Rattle.std.proofs.Common.{◌≡◌, ℕ, ◌<◌}
use Rattle.std.specs.Prelude.{length, slice_index}
use Rattle.graph_search.specs.Adjacency.{EndsRow}
use Rattle.ssa_build.specs.trivial_phis.Trivial.{keys_of}
use Rattle.ssa_build.proofs.trivial_phis.trivial.all_ends.Given as goal

abbrev pub invariant-loop-get : goal.invariant-loop-get
invariant-loop-get l = record { long : length l.ends.items ≡ l.get; ends : (t : ℕ) → t < l.get → EndsRow (keys_of l.operands) t (length l.operands.list) (slice_index l.ends.items t) }
