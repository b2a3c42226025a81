use Rattle.std.proofs.Common.{◌≡◌, ℕ, ◌<◌}
use Rattle.std.specs.Prelude.{length, slice_index}
use Rattle.ssa_build.proofs.trivial_phis.classes.numbers.Given as goal

abbrev pub invariant-loop-d : goal.invariant-loop-d
invariant-loop-d l = record { long : length l.list.items ≡ l.d; own : (k : ℕ) → k < l.d → slice_index l.list.items k ≡ k }
