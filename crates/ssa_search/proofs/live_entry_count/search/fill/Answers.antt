use Rattle.std.proofs.Common.{◌≡◌, ◌<◌, ◌+◌, suc, refl, sym, ◌∙◌, subst, arith}
use Rattle.std.specs.List.{All}
use Rattle.std.proofs.lemmas.List.Elements.{All-nil}
use Rattle.graph_search.specs.declared.reached_sets.Seed.{Seed}
use Rattle.ssa_search.specs.live_entry_count.Lanes.{AreLanesBefore}
use Rattle.ssa_search.proofs.lemmas.live_entry_count.Filling.{no-lanes}
use Rattle.ssa_search.proofs.live_entry_count.search.fill.Goals as goal

pub loop-lane-init : goal.loop-lane-init
loop-lane-init c =
    let b = c.args.blocks.now in
    record {
      heads = refl;
      inside = subst (All (λ (seed : Seed). seed.node < b.arcs.nodes)) (sym c.new-seeds.ensures.items) (All-nil (λ (seed : Seed). seed.node < b.arcs.nodes));
      filled = subst (AreLanesBefore b.heads.items b.accesses.exposed.list b.accesses.firsts.list c.args.base 0 b.arcs.nodes c.args.lanes.now.points.items) (sym c.new-seeds.ensures.items) (no-lanes b.heads.items b.accesses.exposed.list b.accesses.firsts.list c.args.base b.arcs.nodes c.args.lanes.now.points.items c.requires.above);
    }

pub loop-lane-preserved : goal.loop-lane-preserved
loop-lane-preserved c =
    let b = c.args.blocks.now in
    let next : suc c.loop-lane.lane ≡ c.loop-lane.lane + 1 = omega arith in
    record {
      heads = c.in_ok-fill_lane.ensures.heads ∙ c.loop-lane.invariant.heads;
      inside = c.in_ok-fill_lane.ensures.inside;
      filled = subst (λ n. AreLanesBefore b.heads.items b.accesses.exposed.list b.accesses.firsts.list c.args.base n b.arcs.nodes c.fill_lane.new.lanes.points.items c.fill_lane.new.seeds.items) next c.in_ok-fill_lane.ensures.behind;
    }

pub returns-clause-filled : goal.returns-clause-filled
returns-clause-filled c =
    let b = c.args.blocks.now in
    let all : c.loop-lane.lane ≡ 64 = (let over = c.loop-lane-test.false in let e = c.loop-lane.auto.lane-end in omega (arith, over, e)) in
    subst (λ n. AreLanesBefore b.heads.items b.accesses.exposed.list b.accesses.firsts.list c.args.base n b.arcs.nodes c.loop-lane.lanes.points.items c.loop-lane.seeds.items) all c.loop-lane.invariant.filled
