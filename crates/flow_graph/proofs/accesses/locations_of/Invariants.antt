use Rattle.std.proofs.Common.{◌≡◌, map, take}
use Rattle.flow_graph.proofs.accesses.locations_of.Given as goal

abbrev pub invariant-loop-access : goal.invariant-loop-access
invariant-loop-access l = l.locations.items ≡ map (λ access. access.location) (take l.access-index l.list)
