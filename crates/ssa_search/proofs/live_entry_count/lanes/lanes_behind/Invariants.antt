use Rattle.std.proofs.Common.{◌≡◌, ◌↔◌, ℕ, ◌+◌, ◌*◌, ◌<◌, true}
use Rattle.std.specs.Prelude.{slice_index}
use Rattle.graph_search.specs.Sets.{has_bit}
use Rattle.ssa_search.proofs.live_entry_count.lanes.lanes_behind.Given as goal

abbrev pub invariant-loop-k : goal.invariant-loop-k
invariant-loop-k l = (j : ℕ) → (has_bit l.bits j ≡ true) ↔ ((j < l.k) × (l.point < slice_index l.points (64 * l.head + j)))
