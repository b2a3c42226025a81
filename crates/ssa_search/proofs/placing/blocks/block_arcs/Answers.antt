use Rattle.std.proofs.Common.{◌≡◌, ◌≤◌, ◌++◌, length, sym, ap, ◌∙◌, subst, append-nil, get_or, arith}
use Rattle.std.specs.List.{Contains, flat_map}
use Rattle.std.proofs.lemmas.List.{drop_all}
use Rattle.std.proofs.lemmas.List.Elements.{Contains-get_or}
use Rattle.bril_tree.specs.declared.edge.Edge.{Edge}
use Rattle.ssa_search.specs.placing.Blocks.{AreBlockArcs, edge_arcs}
use Rattle.ssa_search.proofs.lemmas.placing.Arcs.{are-block_arcs, edge-within}
use Rattle.ssa_search.proofs.placing.blocks.block_arcs.Goals as goal

pub bounds-heads-edge : goal.bounds-heads-edge
bounds-heads-edge c =
    let d : Edge = record { from = 0; leave = 0; to = 0 } in
    let edges = c.edges-edge-items.result.now in
    let edge = get_or edges c.loop-edge.edge-index d in
    let listed = subst (λ l. Contains l edge) c.edges-edge-items.ensures (Contains-get_or edges c.loop-edge.edge-index d c.loop-edge-test.true) in
    let within = edge-within c.args.code.now c.args.graph.now c.requires.graph c.requires.sound edge listed in
    let long = c.requires.long in
    omega (arith, within, long)

pub push_arc-requires : goal.push_arc-requires
push_arc-requires c =
    let d : Edge = record { from = 0; leave = 0; to = 0 } in
    let edges = c.edges-edge-items.result.now in
    let edge = get_or edges c.loop-edge.edge-index d in
    let listed = subst (λ l. Contains l edge) c.edges-edge-items.ensures (Contains-get_or edges c.loop-edge.edge-index d c.loop-edge-test.true) in
    c.requires.heads edge.leave (edge-within c.args.code.now c.args.graph.now c.requires.graph c.requires.sound edge listed)

pub returns : goal.returns
returns c =
    let code = c.args.code.now in
    let edges = c.args.graph.now.edges in
    let all : length edges ≤ c.loop-edge.edge-index = (let h = c.loop-edge-test.false in let e = ap length c.edges-edge-items.ensures in omega (arith, h, e)) in
    let is : c.loop-edge.arcs.items ≡ flat_map (edge_arcs code) edges =
    sym (append-nil c.loop-edge.arcs.items) ∙ sym (ap (λ l. c.loop-edge.arcs.items ++ flat_map (edge_arcs code) l) (drop_all c.loop-edge.edge-index edges all)) ∙ c.loop-edge.invariant in
    subst (AreBlockArcs code) (sym is) (are-block_arcs code c.args.graph.now c.requires.graph c.requires.sound)
