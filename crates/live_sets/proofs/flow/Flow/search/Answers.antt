use Rattle.std.proofs.Common.{◌≡◌, ◌↔◌, ap, subst}
use Rattle.std.specs.List.{Contains}
use Rattle.graph_search.specs.Path.{IsReached, other_than}
use Rattle.live_sets.proofs.flow.Flow.search.Goals as goal

pub returns-clause-found : goal.returns-clause-found
returns-clause-found c =
    let same : c.self.inside.arcs.arcs ≡ c.args.self.now.arcs = ap (λ v. v.arcs) c.self.view_is in
    λ point. subst (λ arcs. Contains c.search.new.self.found point ↔ IsReached arcs c.args.items.now (other_than c.args.location) point) same (c.in_ok-search.ensures.found point)
