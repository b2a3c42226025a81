use Rattle.std.proofs.Common.{◌≡◌, length, drop}
use Rattle.ssa_search.specs.live_entry_count.Lanes.{with_lane}
use Rattle.ssa_search.proofs.live_entry_count.search.write_points.Given as goal

abbrev pub invariant-loop-point : goal.invariant-loop-point
invariant-loop-point l = record {
  heads : length l.lanes.lows.items ≡ length l.fn.lanes.lows.items;
  written : with_lane (λ p. p) l.heads l.lane (drop l.point-index l.points) l.lanes.points.items ≡ with_lane (λ p. p) l.heads l.lane l.points l.fn.lanes.points.items;
}
