use Rattle.std.proofs.Common.{◌≡◌, ◌<◌, length}
use Rattle.std.specs.List.{All}
use Rattle.ssa_search.specs.live_entry_count.Lanes.{AreLanesBefore}
use Rattle.ssa_search.proofs.live_entry_count.search.fill.Given as goal

abbrev pub invariant-loop-lane : goal.invariant-loop-lane
invariant-loop-lane l = record {
  heads : length l.lanes.lows.items ≡ length l.fn.lanes.lows.items;
  inside : All (λ seed. seed.node < l.blocks.arcs.nodes) l.seeds.items;
  filled : AreLanesBefore l.blocks.heads.items l.blocks.accesses.exposed.list l.blocks.accesses.firsts.list l.base l.lane l.blocks.arcs.nodes l.lanes.points.items l.seeds.items;
}
