use Rattle.std.proofs.Common.{◌≡◌, ◌<◌, length, sym, ap, ◌∙◌, subst, arith}
use Rattle.std.specs.List.{All}
use Rattle.std.proofs.lemmas.List.Elements.{All-weaker}
use Rattle.flow_graph.proofs.AccessRows.{items-within}
use Rattle.ssa_search.specs.gets.Found.{IsBlank, with_values}
use Rattle.ssa_search.specs.placing.Blocks.{FindsLiveLabels}
use Rattle.ssa_search.proofs.lemmas.gets.Finding.{adds-found}
use Rattle.ssa_search.proofs.lemmas.gets.Firsts.{erased-blank, values-length}
use Rattle.ssa_search.proofs.gets.found.search_location.Goals as goal

pub write_firsts-requires-clause-points : goal.write_firsts-requires-clause-points
write_firsts-requires-clause-points c =
    let b = c.args.blocks.now in
    let low = items-within b.accesses.firsts.list b.arcs.nodes c.args.location c.in_ok-points.points.items b.writers c.in_ok-points.ensures in
    subst (λ n. All (λ p. p < n) c.as_slice-2.result.now) (sym (ap length c.as_slice.ensures.value ∙ b.points)) (subst (All (λ p. p < b.arcs.nodes)) (sym c.as_slice-2.ensures.value) low)

pub live_labels-requires-clause-seeds : goal.live_labels-requires-clause-seeds
live_labels-requires-clause-seeds c =
    let b = c.args.blocks.now in
    subst (All (λ p. p < b.arcs.nodes)) (sym c.as_slice-3.ensures.value) (items-within b.accesses.exposed.list b.arcs.nodes c.args.location c.in_ok-seeds.seeds.items b.readers c.in_ok-seeds.ensures)

pub erase_firsts-requires-clause-points : goal.erase_firsts-requires-clause-points
erase_firsts-requires-clause-points c =
    let b = c.args.blocks.now in
    let low = items-within b.accesses.firsts.list b.arcs.nodes c.args.location c.in_ok-points.points.items b.writers c.in_ok-points.ensures in
    subst (λ n. All (λ p. p < n) c.as_slice-6.result.now) (sym (ap length c.as_slice-5.ensures.value ∙ b.points)) (subst (All (λ p. p < b.arcs.nodes)) (sym c.as_slice-6.ensures.value) low)

pub erase_firsts-requires-clause-heads : goal.erase_firsts-requires-clause-heads
erase_firsts-requires-clause-heads c =
    let b = c.args.blocks.now in
    let first = c.args.first.now.items in
    let long = ap length c.write_firsts.ensures ∙ values-length (λ p. p) c.as_slice.result.now c.as_slice-2.result.now first ∙ c.requires.long in
    subst (All (λ h. h < length c.write_firsts.new.first.items)) (sym c.as_slice-5.ensures.value)
    (All-weaker (λ h. h < b.arcs.nodes) (λ h. h < length c.write_firsts.new.first.items) (λ h low. omega (arith, low, long)) b.heads.items b.inside)

pub returns-clause-long : goal.returns-clause-long
returns-clause-long c =
    ap length c.erase_firsts.ensures ∙ values-length (λ _. 4294967295) c.as_slice-5.result.now c.as_slice-6.result.now c.write_firsts.new.first.items
    ∙ ap length c.write_firsts.ensures ∙ values-length (λ p. p) c.as_slice.result.now c.as_slice-2.result.now c.args.first.now.items

pub returns-clause-blank : goal.returns-clause-blank
returns-clause-blank c =
    let heads = c.args.blocks.now.heads.items in
    let points = c.in_ok-points.points.items in
    let first = c.args.first.now.items in
    let written : c.write_firsts.new.first.items ≡ with_values (λ p. p) heads points first = c.write_firsts.ensures ∙ (λ i. with_values (λ p. p) (c.as_slice.ensures.value i) (c.as_slice-2.ensures.value i) first) in
    let erased : c.erase_firsts.new.first.items ≡ with_values (λ _. 4294967295) heads points (with_values (λ p. p) heads points first) =
    c.erase_firsts.ensures ∙ (λ i. with_values (λ _. 4294967295) (c.as_slice-5.ensures.value i) (c.as_slice-6.ensures.value i) (written i)) in
    subst IsBlank (sym erased) (erased-blank heads points first c.requires.blank)

pub returns-clause-found : goal.returns-clause-found
returns-clause-found c = λ code few leads blocks.
    let b = c.args.blocks.now in
    let heads = b.heads.items in
    let points = c.in_ok-points.points.items in
    let first = c.args.first.now.items in
    let written : c.as_slice-4.result.now ≡ with_values (λ p. p) heads points first = c.as_slice-4.ensures.value ∙ c.write_firsts.ensures ∙ (λ i. with_values (λ p. p) (c.as_slice.ensures.value i) (c.as_slice-2.ensures.value i) first) in
    let finds : FindsLiveLabels b.arcs.arcs c.in_ok-seeds.seeds.items (with_values (λ p. p) heads points first) c.found.result.now =
    subst (λ f. FindsLiveLabels b.arcs.arcs c.in_ok-seeds.seeds.items (with_values (λ p. p) heads points first) f) (sym c.found.ensures.value)
    (subst (λ w. FindsLiveLabels b.arcs.arcs c.in_ok-seeds.seeds.items w c.live_labels.new.reached.found) written
    (subst (λ s. FindsLiveLabels b.arcs.arcs s c.as_slice-4.result.now c.live_labels.new.reached.found) c.as_slice-3.ensures.value c.in_ok-live_labels.ensures.found)) in
    adds-found code few leads heads b.arcs b.accesses.exposed.list b.accesses.firsts.list blocks c.args.location c.in_ok-seeds.seeds.items points first c.found.result.now c.in_ok-seeds.ensures c.in_ok-points.ensures c.requires.long c.requires.blank finds
    c.args.found.now.items c.push_found.new.found.items c.in_ok-push_found.ensures
