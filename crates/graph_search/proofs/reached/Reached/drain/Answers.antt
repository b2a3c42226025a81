use Rattle.std.proofs.Common.{◌≡◌, ◌+◌, ◌<◌, ◌≤◌, length, ap, ◌∙◌, sym, arith, rules, length-append}
use Rattle.std.specs.Prelude.{slice_index}
use Rattle.std.proofs.lemmas.List.{get_or_read, get_or_default}
use Rattle.graph_search.specs.Path.{Leads}
use Rattle.graph_search.proofs.Paths.{closed_more, reached_more, all_found}
use Rattle.graph_search.proofs.Visiting.{kept}
use Rattle.graph_search.proofs.reached.Reached.drain.Goals as goal

pub loop-next-preserved : goal.loop-next-preserved
loop-next-preserved g c =
    let arcs = c.args.graph.now.arcs in
    let inv = c.loop-next.invariant in
    let found = c.loop-next.self.found in
    let new = c.visit_next.new.self.found in
    let node = c.index-node.result.now in
    let next = c.loop-next.next in
    let view : c.self.inside.found.items ≡ found = ap (λ v. v.found) c.self.view_is in
    let low : next < length c.self.inside.found.items = search rules in
    let here : slice_index found next ≡ node = ap (λ xs. slice_index xs next) (sym view) ∙ sym (get_or_read c.self.inside.found.items next node low c.index-node.ensures 0) in
    let low' : next < length found = rw view at low in
    let v = c.in_ok-visit_next.ensures.found in
    record {
      nodes = c.in_ok-visit_next.ensures.nodes ∙ inv.nodes;
      next = let grown : length new ≡ length found + length v.rest = ap length v.grew ∙ length-append found v.rest in omega arith;
      closed = closed_more arcs (g.G.Gate.opens c.args.gate.now) next node found new low' here inv.closed v;
      reached = reached_more arcs c.args.self.now.found (g.G.Gate.opens c.args.gate.now) node found new (next, low', get_or_default found next node 0 low' ∙ here) v inv.reached;
      kept = λ n h. kept (Leads arcs (g.G.Gate.opens c.args.gate.now) node) found new v n (inv.kept n h);
    }

pub returns-clause-found : goal.returns-clause-found
returns-clause-found g c =
    let inv = c.loop-next.invariant in
    let view : c.self.inside.found.items ≡ c.loop-next.self.found = ap (λ v. v.found) c.self.view_is in
    let short' : length c.self.inside.found.items ≤ c.loop-next.next = search rules in
    let short : length c.loop-next.self.found ≤ c.loop-next.next = rw view at short' in
    λ n. (inv.reached n, all_found c.args.graph.now.arcs c.args.self.now.found (g.G.Gate.opens c.args.gate.now) c.loop-next.next c.loop-next.self.found short inv.closed inv.kept n)
