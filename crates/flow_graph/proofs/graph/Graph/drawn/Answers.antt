use Rattle.std.proofs.Common.{◌<◌, length, map, sym, ap, ◌∙◌, subst, inl}
use Rattle.std.proofs.lemmas.Result.{err_from_is_err_and}
use Rattle.std.specs.List.{All}
use Rattle.bril_tree.specs.declared.edge.Edge.{Edge}
use Rattle.flow_graph.specs.Graph.{edges_from}
use Rattle.flow_graph.specs.Visits.{sites_shown}
use Rattle.flow_graph.specs.Branches.{AreBranchRows}
use Rattle.flow_graph.specs.declared.graph.GraphFault.TheVariants.{Nest}
use Rattle.flow_graph.proofs.Failing.{one_least}
use Rattle.flow_graph.proofs.PointEdges.{edges_inside}
use Rattle.flow_graph.proofs.Listed.{graph_is}
use Rattle.flow_graph.proofs.graph.Graph.drawn.Goals as goal

pub returns-in_err-judged-clause-faults : goal.returns-in_err-judged-clause-faults
returns-in_err-judged-clause-faults c = λ point least.
    let e = err_from_is_err_and c.from_residual-in_err-judged.result c.from_residual-in_err-judged.ensures.1 in
    rw (e.1, e.2) (inl (ap Nest (one_least c.args.code.now c.in_err-judged.field-0.0.point point c.in_err-judged.ensures.err least)))

pub all_preds-requires : goal.all_preds-requires
all_preds-requires c =
    let code = c.args.code.now in
    let rows : AreBranchRows code c.args.rows.now = record { points = c.requires.rows.points; at = c.requires.rows.at } in
    let edges = c.in_ok-edges.ensures code rows in
    subst (λ es. All (λ (e : Edge). e.to < length c.args.rows.now) es) (sym c.as_slice-4.ensures)
    (edges_inside code c.as_slice-3.result.now c.in_ok-edges.edges (length c.args.rows.now) edges c.requires.rows.points)

pub returns-clause-found : goal.returns-clause-found
returns-clause-found c =
    let code = c.args.code.now in
    let visits = c.in_ok-visits.visits.items in
    let rows : AreBranchRows code c.args.rows.now = record { points = c.requires.rows.points; at = c.requires.rows.at } in
    let sites = c.in_ok-sites.ensures ∙ ap (λ vs. map (sites_shown vs) vs) c.as_slice-2.ensures.value in
    let edges = c.in_ok-edges.ensures code rows ∙ ap (λ ss. edges_from code 0 ss) c.as_slice-3.ensures in
    graph_is code visits (record { sites = c.in_ok-sites.sites; edges = c.in_ok-edges.edges }) c.in_ok-visits.ensures c.in_ok-judged.ensures.ok sites edges

pub returns-clause-sound : goal.returns-clause-sound
returns-clause-sound c = c.in_ok-judged.ensures.ok

pub returns-clause-faults : goal.returns-clause-faults
returns-clause-faults c = λ point least. c.in_ok-judged.ensures.ok point least.fails
