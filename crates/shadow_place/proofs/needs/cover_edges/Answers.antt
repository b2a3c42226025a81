use Rattle.std.proofs.Common.{get_or, subst}
use Rattle.std.specs.List.{Contains}
use Rattle.std.proofs.lemmas.List.{get_or_default}
use Rattle.bril_tree.specs.declared.edge.Edge.{Edge}
use Rattle.shadow_place.specs.Spans.{IsAssignedBy, Widens}
use Rattle.shadow_place.proofs.Widening.{taken, widen_list}
use Rattle.shadow_place.proofs.needs.cover_edges.Goals as goal

pub loop-edge-preserved : goal.loop-edge-preserved
loop-edge-preserved c =
    let edges = c.args.edges.now in
    let i = c.loop-edge.edge-index in
    let none : Edge = record { from = 0; leave = 0; to = 0 } in
    widen_list (IsAssignedBy c.args.code.now c.args.lowered.now) edges i (get_or edges i none) c.args.spans.now.items c.loop-edge.spans.items c.cover_edge.new.spans.items
    c.loop-edge-test.true (get_or_default edges i none (get_or edges i none) c.loop-edge-test.true) c.loop-edge.invariant c.in_ok-cover_edge.ensures

pub returns : goal.returns
returns c =
    let edges = c.args.edges.now in
    subst (λ l. Widens (λ slot point. (edge : Edge) × Contains l edge × IsAssignedBy c.args.code.now c.args.lowered.now edge slot point) c.args.spans.now.items c.loop-edge.spans.items)
    (taken edges c.loop-edge.edge-index c.loop-edge-test.false c.loop-edge.auto.edge-index-end) c.loop-edge.invariant
