use Rattle.std.proofs.Common.{◌≡◌, ℕ, false}
use Rattle.std.specs.Prelude.{length, slice_index_or}
use Rattle.ssa_build.proofs.trivial_phis.trivial.marks.Given as goal

abbrev pub invariant-loop : goal.invariant-loop
invariant-loop l = record { long : length l.marks.items ≡ l.counter; unset : (t : ℕ) → slice_index_or l.marks.items t false ≡ false }
