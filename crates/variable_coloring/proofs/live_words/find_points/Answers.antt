use Rattle.std.proofs.Common.{sym, ◌∙◌, subst}
use Rattle.std.specs.List.{All}
use Rattle.graph_search.specs.Path.{IsBetween}
use Rattle.live_sets.proofs.Rows.{found-within}
use Rattle.variable_coloring.specs.LiveWords.{goes_to_live}
use Rattle.variable_coloring.proofs.Finding.{has-points, nodes-below}
use Rattle.variable_coloring.proofs.live_words.find_points.Goals as goal

pub search-requires-clause-seeds : goal.search-requires-clause-seeds
search-requires-clause-seeds c = nodes-below c.args.flow.now.arcs.nodes c.args.seeds.now c.as_slice.result.now (c.as_slice.ensures.value ∙ c.in_ok-nodes.ensures) c.requires.seeds

pub returns-clause-within : goal.returns-clause-within
returns-clause-within c =
    let flow = c.args.flow.now in
    found-within flow.arcs.nodes flow.arcs.arcs c.as_slice.result.now (goes_to_live c.args.sets.now.words c.nodes.result) c.search.new.self.found flow.between
    (nodes-below flow.arcs.nodes c.args.seeds.now c.as_slice.result.now (c.as_slice.ensures.value ∙ c.in_ok-nodes.ensures) c.requires.seeds) c.in_ok-search.ensures.found

pub returns-clause-there : goal.returns-clause-there
returns-clause-there c = λ opens found.
    let flow = c.args.flow.now in
    has-points flow.arcs.arcs c.nodes.result (subst (λ n. All (IsBetween n) flow.arcs.arcs) (sym c.nodes.ensures) flow.between) c.args.seeds.now opens c.args.sets.now.words found
    c.as_slice.result.now c.search.new.self.found (c.as_slice.ensures.value ∙ c.in_ok-nodes.ensures) c.in_ok-search.ensures.found
