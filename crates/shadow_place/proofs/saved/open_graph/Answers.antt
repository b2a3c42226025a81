use Rattle.std.proofs.Common.{◌+◌, length, sym, ap, ◌∙◌, subst}
use Rattle.std.specs.List.{All}
use Rattle.graph_search.specs.Path.{IsBetween}
use Rattle.shadow_place.specs.Arcs.{open_arcs_of}
use Rattle.shadow_place.proofs.Depths.{arcs_between}
use Rattle.shadow_place.proofs.Saving.{arcs_found}
use Rattle.shadow_place.proofs.saved.open_graph.Goals as goal

pub of-requires-clause-between : goal.of-requires-clause-between
of-requires-clause-between c =
    let a = c.args.known.now in
    let same = c.in_ok-arcs.ensures ∙ (ap (λ es. open_arcs_of c.as_slice.result.now c.args.level es) c.edges.ensures ∙ ap (λ ds. open_arcs_of ds c.args.level a.graph.now.edges) c.as_slice.ensures) in
    let are = arcs_found a c.requires.known c.args.level c.in_ok-arcs.arcs.items c.requires.level same in
    subst (λ code. All (IsBetween (length code + 1)) c.in_ok-arcs.arcs.items) (sym c.as_slice-2.ensures) (arcs_between a.func.now.code c.args.level c.in_ok-arcs.arcs.items are)

pub returns-clause-arcs : goal.returns-clause-arcs
returns-clause-arcs c =
    let a = c.args.known.now in
    let same = c.in_ok-arcs.ensures ∙ (ap (λ es. open_arcs_of c.as_slice.result.now c.args.level es) c.edges.ensures ∙ ap (λ ds. open_arcs_of ds c.args.level a.graph.now.edges) c.as_slice.ensures) in
    arcs_found a c.requires.known c.args.level _ c.requires.level (c.in_ok-arcs-2.ensures.arcs ∙ same)
