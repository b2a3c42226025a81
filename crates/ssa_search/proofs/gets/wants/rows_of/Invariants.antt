use Rattle.std.proofs.Common.{◌≡◌, ◌+◌, ◌<◌, length}
use Rattle.ssa_search.specs.gets.Found.{IsLiveNumber}
use Rattle.ssa_search.specs.gets.Rows.{AreRowsBefore}
use Rattle.ssa_search.proofs.gets.wants.rows_of.Given as goal

abbrev pub invariant-loop-point : goal.invariant-loop-point
invariant-loop-point l = record {
  nodes : l.reached.nodes ≡ l.locations;
  few : l.base + length l.list.items < 4294967296;
  rows : AreRowsBefore (IsLiveNumber l.func.code) l.base l.point l.starts.items l.list.items;
}
