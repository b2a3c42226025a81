use Rattle.std.proofs.Common.{◌<◌, sym, ap, ◌∙◌, subst}
use Rattle.std.specs.List.{All}
use Rattle.flow_graph.specs.Graph.{edges_to}
use Rattle.shadow_place.specs.Arcs.{guards_of}
use Rattle.shadow_place.specs.Marks.{AddsAll, IsMarkedIn}
use Rattle.shadow_place.proofs.Guards.{guards_within}
use Rattle.shadow_place.proofs.Saving.{guards_found, marks_out}
use Rattle.shadow_place.proofs.saved.mark_label.Goals as goal

pub search-requires-clause-seeds : goal.search-requires-clause-seeds
search-requires-clause-seeds c =
    let a = c.args.known.now in
    let same = c.as_slice-2.ensures.value ∙ (c.in_ok-guards.ensures ∙ ap (λ ds. guards_of ds c.args.level (edges_to c.args.label a.graph.now.edges)) c.as_slice.ensures) in
    let are = guards_found a c.requires.known c.args.level c.args.label c.as_slice-2.result.now same in
    subst (λ n. All (λ guard. guard < n) c.as_slice-2.result.now) (sym c.requires.points) (guards_within a.func.now.code c.args.level c.args.label c.as_slice-2.result.now are)

pub returns-clause-marks : goal.returns-clause-marks
returns-clause-marks c =
    let a = c.args.known.now in
    let label = c.args.label in
    let old = c.args.rows.now.items in
    let new = c.mark_points.new.rows.items in
    let same = c.as_slice-2.ensures.value ∙ (c.in_ok-guards.ensures ∙ ap (λ ds. guards_of ds c.args.level (edges_to label a.graph.now.edges)) c.as_slice.ensures) in
    let are = guards_found a c.requires.known c.args.level label c.as_slice-2.result.now same in
    let marks : AddsAll (IsMarkedIn a c.args.level label c.search.new.self.found) old new = subst (λ found. AddsAll (IsMarkedIn a c.args.level label found) old new) c.found.ensures.value c.in_ok-mark_points.ensures in
    marks_out a c.args.level label c.args.arcs.now.arcs c.as_slice-2.result.now c.search.new.self.found old new c.requires.arcs are c.in_ok-search.ensures.found marks
