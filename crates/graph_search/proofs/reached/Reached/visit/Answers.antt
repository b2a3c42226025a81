use Rattle.std.proofs.Common.{◌≡◌, ◌<◌, length, ap, ◌∙◌, arith}
use Rattle.std.proofs.lemmas.List.{get_or_read}
use Rattle.graph_search.proofs.Stamps.{AreReached-push}
use Rattle.graph_search.proofs.Visiting.{VisitsAll-push}
use Rattle.graph_search.proofs.reached.Reached.visit.Goals as goal

pub invariant_of-self-then-index-self : goal.invariant_of-self-then-index-self
invariant_of-self-then-index-self c =
    let stamps = c.self.inside.stamps.items in
    let nodes : length stamps ≡ c.args.self.now.nodes = ap (λ v. v.nodes) c.self.view_is in
    let here : c.args.node < length stamps = omega arith in
    rw c.in_ok-push.ensures.items (AreReached-push stamps c.self.inside.found.items c.self.inside.stamp c.args.node c.self.invariant here
    (λ e. c.if-index-self.true (get_or_read stamps c.args.node c.index.result.now here c.index.ensures 0 ∙ e)))

pub returns-in_ok-push-clause-found : goal.returns-in_ok-push-clause-found
returns-in_ok-push-clause-found c = rw (c.in_ok-push.ensures.items, ← ap (λ v. v.found) c.self.view_is) (VisitsAll-push c.self.inside.found.items c.args.node)
