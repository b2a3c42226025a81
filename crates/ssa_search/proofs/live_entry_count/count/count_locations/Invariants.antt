use Rattle.std.proofs.Common.{◌≡◌, ◌-◌, ◌<◌, length}
use Rattle.ssa_search.specs.live_entry_count.Counted.{IsLiveBetween, TellsCount}
use Rattle.ssa_search.specs.live_entry_count.Lanes.{AreAbove}
use Rattle.ssa_search.proofs.live_entry_count.count.count_locations.Given as goal

abbrev pub invariant-loop-base : goal.invariant-loop-base
invariant-loop-base l = record {
  heads : length l.lanes.lows.items ≡ l.blocks.arcs.nodes;
  above : AreAbove l.lanes.points.items l.blocks.arcs.nodes;
  nodes : l.words.nodes ≡ l.blocks.arcs.nodes;
  few : l.base < 4294967296 - 64;
  counted : TellsCount (IsLiveBetween l.func.code 0 l.base) l.count;
}

abbrev pub decreases-loop-base : goal.decreases-loop-base
decreases-loop-base l = l.locations - l.base
