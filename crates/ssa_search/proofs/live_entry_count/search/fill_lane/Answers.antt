use Rattle.std.proofs.Common.{◌≡◌, ◌<◌, ◌+◌, ◌*◌, suc, length, sym, ap, ◌∙◌, subst, inl, inr, ⊎_elim}
use Rattle.std.specs.List.{All, Contains}
use Rattle.flow_graph.proofs.AccessRows.{items-within}
use Rattle.ssa_search.specs.live_entry_count.Lanes.{AreLanesBefore, with_lane}
use Rattle.ssa_search.proofs.lemmas.live_entry_count.Filling.{lanes-more}
use Rattle.ssa_search.proofs.live_entry_count.search.fill_lane.Goals as goal

pub write_points-requires-clause-points : goal.write_points-requires-clause-points
write_points-requires-clause-points c =
    let b = c.args.blocks.now in
    let low = items-within b.accesses.firsts.list b.arcs.nodes (c.args.base + c.args.lane) c.in_ok-points.points.items b.writers c.in_ok-points.ensures in
    subst (λ n. All (λ p. p < n) c.as_slice-3.result.now) (sym (ap length c.as_slice-2.ensures.value ∙ b.points)) (subst (All (λ p. p < b.arcs.nodes)) (sym c.as_slice-3.ensures.value) low)

pub write_points-requires-clause-heads : goal.write_points-requires-clause-heads
write_points-requires-clause-heads c =
    let b = c.args.blocks.now in
    subst (λ n. All (λ h. h < n) c.as_slice-2.result.now) (sym c.requires.heads) (subst (All (λ h. h < b.arcs.nodes)) (sym c.as_slice-2.ensures.value) b.inside)

pub returns-clause-inside : goal.returns-clause-inside
returns-clause-inside c =
    let b = c.args.blocks.now in
    c.in_ok-push_seeds.ensures.nodes b.arcs.nodes c.requires.inside (subst (All (λ p. p < b.arcs.nodes)) (sym c.as_slice.ensures.value) (items-within b.accesses.exposed.list b.arcs.nodes (c.args.base + c.args.lane) c.in_ok-readers.readers.items b.readers c.in_ok-readers.ensures))

pub returns-clause-behind : goal.returns-clause-behind
returns-clause-behind c =
    let b = c.args.blocks.now in
    let lane = c.args.lane in
    let points = c.args.lanes.now.points.items in
    let written : c.write_points.new.lanes.points.items ≡ with_lane (λ p. p) b.heads.items lane c.in_ok-points.points.items points =
    c.write_points.ensures.points ∙ (λ i. with_lane (λ p. p) (c.as_slice-2.ensures.value i) lane (c.as_slice-3.ensures.value i) points) in
    subst (λ l. AreLanesBefore b.heads.items b.accesses.exposed.list b.accesses.firsts.list c.args.base (suc lane) b.arcs.nodes l c.push_seeds.new.seeds.items) (sym written)
    (lanes-more b.heads.items b.accesses.exposed.list b.accesses.firsts.list c.args.base b.arcs.nodes lane c.requires.lane points (c.args.lanes.now.long ∙ ap (λ n. 64 * n) c.requires.heads) c.in_ok-points.points.items c.in_ok-points.ensures
    c.args.seeds.now.items c.push_seeds.new.seeds.items c.requires.before c.in_ok-push_seeds.ensures.kept
    (λ node a. c.in_ok-push_seeds.ensures.there node (subst (λ l. Contains l node) (sym c.as_slice.ensures.value) ((c.in_ok-readers.ensures node).1 a)))
    (λ k node small h. ⊎_elim inl (λ s. inr (s.0, (c.in_ok-readers.ensures node).0 (subst (λ l. Contains l node) c.as_slice.ensures.value s.1))) (c.in_ok-push_seeds.ensures.only k node h)))
