use Rattle.std.proofs.Common.{◌≡◌, ◌<◌, map, sym, ap, ◌∙◌, subst}
use Rattle.std.specs.List.{All}
use Rattle.std.proofs.lemmas.List.Elements.{All-map}
use Rattle.flow_graph.proofs.accesses.AccessLists.of.Goals as goal

pub of-requires-clause-below : goal.of-requires-clause-below
of-requires-clause-below c =
    let list = c.as_slice.result.now in
    let count = c.location_count-count.result in
    let locations : c.in_ok-locations_of.field-0.items ≡ map (λ access. access.location) list =
    c.in_ok-locations_of.ensures ∙ ap (map (λ access. access.location)) (c.as_slice-2.ensures.value ∙ sym c.as_slice.ensures.value) in
    subst (All (λ key. key < count)) (sym locations) (All-map (λ key. key < count) (λ access. access.location) list c.location_count-count.ensures.above)
