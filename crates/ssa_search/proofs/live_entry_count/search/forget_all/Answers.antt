use Rattle.std.proofs.Common.{◌<◌, ◌+◌, length, sym, ap, ◌∙◌, subst}
use Rattle.std.specs.List.{All}
use Rattle.flow_graph.proofs.AccessRows.{items-within}
use Rattle.ssa_search.specs.live_entry_count.Lanes.{AreAbove}
use Rattle.ssa_search.proofs.live_entry_count.search.forget_all.Goals as goal

pub forget_points-requires-clause-points : goal.forget_points-requires-clause-points
forget_points-requires-clause-points c =
    let b = c.args.blocks.now in
    let low = items-within b.accesses.firsts.list b.arcs.nodes (c.args.base + c.loop-lane.lane) c.in_ok-points.points.items b.writers c.in_ok-points.ensures in
    subst (λ n. All (λ p. p < n) c.as_slice-in-loop-lane.result.now) (sym (ap length c.as_slice.ensures.value ∙ b.points)) (subst (All (λ p. p < b.arcs.nodes)) (sym c.as_slice-in-loop-lane.ensures.value) low)

pub forget_points-requires-clause-heads : goal.forget_points-requires-clause-heads
forget_points-requires-clause-heads c =
    let b = c.args.blocks.now in
    subst (λ n. All (λ h. h < n) c.as_slice.result.now) (sym (c.loop-lane.invariant.heads ∙ c.requires.heads)) (subst (All (λ h. h < b.arcs.nodes)) (sym c.as_slice.ensures.value) b.inside)

pub forget_points-requires-clause-above : goal.forget_points-requires-clause-above
forget_points-requires-clause-above c =
    subst (λ n. AreAbove c.loop-lane.lanes.points.items n) (sym (c.loop-lane.invariant.heads ∙ c.requires.heads)) (subst (λ l. AreAbove l c.args.blocks.now.arcs.nodes) (sym c.loop-lane.invariant.points) c.requires.above)
