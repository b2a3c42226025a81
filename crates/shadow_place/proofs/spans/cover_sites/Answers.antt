use Rattle.shadow_place.proofs.Widening.{site_none, site_there}
use Rattle.shadow_place.proofs.spans.cover_sites.Goals as goal

pub returns-in-None : goal.returns-in-None
returns-in-None c = site_none c.args.graph.now.sites c.args.point c.args.spans.now.items c.in-None.ensures

pub returns-in-Some : goal.returns-in-Some
returns-in-Some c = site_there c.args.graph.now.sites c.args.point c.in-Some.sites.now c.args.spans.now.items c.cover_all.new.spans.items c.in-Some.ensures c.cover_all.ensures
