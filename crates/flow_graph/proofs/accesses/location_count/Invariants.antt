use Rattle.std.proofs.Common.{◌<◌, ◌≤◌, ◌^◌, take}
use Rattle.std.specs.List.{All}
use Rattle.flow_graph.proofs.accesses.location_count.Given as goal

abbrev pub invariant-loop-access : goal.invariant-loop-access
invariant-loop-access l = record {
  above : All (λ access. access.location < l.count) (take l.access-index l.list);
  few : l.count ≤ 2 ^ 32;
}
