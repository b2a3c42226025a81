use Rattle.std.proofs.Common.{◌≡◌, map, take}
use Rattle.flow_graph.specs.Visits.{sites_shown}
use Rattle.flow_graph.proofs.open_sites.all_sites.Given as goal

abbrev pub invariant-loop-visit : goal.invariant-loop-visit
invariant-loop-visit l = l.all ≡ map (sites_shown l.visits) (take l.visit-index l.visits)
