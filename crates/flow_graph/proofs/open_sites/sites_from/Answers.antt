use Rattle.std.proofs.Common.{arith}
use Rattle.flow_graph.specs.Visits.{sites_kept}
use Rattle.flow_graph.proofs.Listed.{sites_turn}
use Rattle.flow_graph.proofs.open_sites.sites_from.Goals as goal

pub loop-site-preserved : goal.loop-site-preserved
loop-site-preserved c =
    sites_turn c.args.visits.now c.loop-site._site c.loop-site.next c.in_ok-next.next c.loop-site.sites c.push_site.new.sites (sites_kept c.args.visits.now 8 c.args.newest)
    (omega arith) c.in_ok-next.ensures.next c.in_ok-next.ensures.pushed c.loop-site.invariant
