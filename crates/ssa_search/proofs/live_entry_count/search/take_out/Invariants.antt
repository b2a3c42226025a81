use Rattle.std.proofs.Common.{◌≡◌, length}
use Rattle.ssa_search.proofs.lemmas.live_entry_count.Filling.{AreOut}
use Rattle.ssa_search.proofs.live_entry_count.search.take_out.Given as goal

abbrev pub invariant-loop-lane : goal.invariant-loop-lane
invariant-loop-lane l = record {
  heads : length l.lanes.lows.items ≡ length l.fn.lanes.lows.items;
  out : AreOut l.blocks.heads.items l.blocks.accesses.firsts.list l.base l.blocks.arcs.nodes l.lane l.lanes.points.items;
}
