use Rattle.std.proofs.Common.{◌≡◌, ◌-◌, ◌++◌}
use Rattle.flow_graph.specs.Visits.{sites_kept}
use Rattle.flow_graph.proofs.open_sites.sites_from.Given as goal

abbrev pub invariant-loop-site : goal.invariant-loop-site
invariant-loop-site l = l.sites ++ sites_kept l.visits (8 - l._site) l.next ≡ sites_kept l.visits 8 l.fn.newest
