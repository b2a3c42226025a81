use Rattle.std.proofs.Common.{◌≡◌, length}
use Rattle.ssa_search.proofs.live_entry_count.search.forget_all.Given as goal

abbrev pub invariant-loop-lane : goal.invariant-loop-lane
invariant-loop-lane l = record {
  heads : length l.lanes.lows.items ≡ length l.fn.lanes.lows.items;
  points : l.lanes.points.items ≡ l.fn.lanes.points.items;
}
