use Rattle.std.proofs.Common.{◌≡◌, ◌+◌, ◌<◌, ◌++◌, length, drop}
use Rattle.ssa_search.specs.gets.Rows.{gets_from}
use Rattle.ssa_search.proofs.gets.rows.push_gets.Given as goal

abbrev pub invariant-loop-location : goal.invariant-loop-location
invariant-loop-location l = record {
  few : l.base + length l.list.items < 4294967296;
  gets : l.list.items ++ gets_from (l.base + length l.list.items) (drop l.location-index l.locations) ≡ l.fn.list.items ++ gets_from (l.base + length l.fn.list.items) l.locations;
}
