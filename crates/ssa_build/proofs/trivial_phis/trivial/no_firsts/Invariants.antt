use Rattle.std.proofs.Common.{◌≡◌, ℕ, None}
use Rattle.std.specs.Prelude.{length, slice_index_or}
use Rattle.ssa_build.proofs.trivial_phis.trivial.no_firsts.Given as goal

abbrev pub invariant-loop : goal.invariant-loop
invariant-loop l = record { long : length l.firsts.items ≡ l.counter; unset : (t : ℕ) → slice_index_or l.firsts.items t None ≡ None }
