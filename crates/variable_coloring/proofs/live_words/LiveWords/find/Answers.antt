use Rattle.std.proofs.Common.{◌*◌, sym, subst, ◌∙◌}
use Rattle.graph_search.specs.Path.{other_than}
use Rattle.definite_assignment.specs.Window.{location_in}
use Rattle.variable_coloring.specs.LiveWords.{AreFound}
use Rattle.variable_coloring.proofs.Finding.{tell-live}
use Rattle.variable_coloring.proofs.live_words.LiveWords.find.Goals as goal

pub returns-clause-live : goal.returns-clause-live
returns-clause-live c = λ code are.
    let flow = c.args.flow.now in
    let seeds = c.in_ok-seeds.seeds.items in
    tell-live code flow.reads.items flow.arcs are c.args.block seeds c.in_ok-seeds.ensures.exact c.search.new.self.words
    (subst (λ l. AreFound flow.arcs.arcs l (λ k. other_than (location_in (2 * c.args.block) k)) c.search.new.self.words) c.as_slice.ensures.value c.in_ok-search.ensures.found)

pub returns-clause-there : goal.returns-clause-there
returns-clause-there c =
    let flow = c.args.flow.now in
    let seeds = c.in_ok-seeds.seeds.items in
    c.in_ok-find_points.ensures.there (λ k. other_than (location_in (2 * c.args.block) k))
    (subst (λ l. AreFound flow.arcs.arcs l (λ k. other_than (location_in (2 * c.args.block) k)) c.search.new.self.words) (c.as_slice.ensures.value ∙ sym c.as_slice-2.ensures.value) c.in_ok-search.ensures.found)
