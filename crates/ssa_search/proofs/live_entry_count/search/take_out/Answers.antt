use Rattle.std.proofs.Common.{◌≡◌, ◌<◌, ◌+◌, ◌*◌, suc, length, refl, sym, ap, ◌∙◌, subst, arith}
use Rattle.std.specs.List.{All}
use Rattle.flow_graph.proofs.AccessRows.{items-within}
use Rattle.ssa_search.specs.live_entry_count.Lanes.{with_lane}
use Rattle.ssa_search.proofs.lemmas.live_entry_count.Filling.{AreOut, out-more}
use Rattle.ssa_search.proofs.live_entry_count.search.take_out.Goals as goal

pub loop-lane-init : goal.loop-lane-init
loop-lane-init c = record {
  heads = refl;
  out = record { out = λ head lane low less small. absurd (omega (arith, less)); left = λ lane from small. c.requires.filled lane small };
}

pub erase_points-requires-clause-points : goal.erase_points-requires-clause-points
erase_points-requires-clause-points c =
    let b = c.args.blocks.now in
    let low = items-within b.accesses.firsts.list b.arcs.nodes (c.args.base + c.loop-lane.lane) c.in_ok-points.points.items b.writers c.in_ok-points.ensures in
    subst (λ n. All (λ p. p < n) c.as_slice-in-loop-lane.result.now) (sym (ap length c.as_slice.ensures.value ∙ b.points)) (subst (All (λ p. p < b.arcs.nodes)) (sym c.as_slice-in-loop-lane.ensures.value) low)

pub erase_points-requires-clause-heads : goal.erase_points-requires-clause-heads
erase_points-requires-clause-heads c =
    let b = c.args.blocks.now in
    subst (λ n. All (λ h. h < n) c.as_slice.result.now) (sym (c.loop-lane.invariant.heads ∙ c.requires.heads)) (subst (All (λ h. h < b.arcs.nodes)) (sym c.as_slice.ensures.value) b.inside)

pub loop-lane-preserved : goal.loop-lane-preserved
loop-lane-preserved c =
    let b = c.args.blocks.now in
    let lane = c.loop-lane.lane in
    let points = c.loop-lane.lanes.points.items in
    let next : suc lane ≡ lane + 1 = omega arith in
    let written : c.erase_points.new.lanes.points.items ≡ with_lane (λ _. 4294967295) b.heads.items lane c.in_ok-points.points.items points =
    c.erase_points.ensures.points ∙ (λ i. with_lane (λ _. 4294967295) (c.as_slice.ensures.value i) lane (c.as_slice-in-loop-lane.ensures.value i) points) in
    record {
      heads = c.erase_points.ensures.heads ∙ c.loop-lane.invariant.heads;
      out = subst (λ n. AreOut b.heads.items b.accesses.firsts.list c.args.base b.arcs.nodes n c.erase_points.new.lanes.points.items) next
          (subst (AreOut b.heads.items b.accesses.firsts.list c.args.base b.arcs.nodes (suc lane)) (sym written)
          (out-more b.heads.items b.accesses.firsts.list c.args.base b.arcs.nodes lane (let l = c.loop-lane-test.true in omega (arith, l)) points (c.loop-lane.lanes.long ∙ ap (λ n. 64 * n) (c.loop-lane.invariant.heads ∙ c.requires.heads)) c.in_ok-points.points.items c.in_ok-points.ensures c.loop-lane.invariant.out));
    }

pub returns-clause-above : goal.returns-clause-above
returns-clause-above c = λ head lane low small. c.loop-lane.invariant.out.out head lane low (let over = c.loop-lane-test.false in omega (arith, over, small)) small
