use Rattle.std.proofs.Common.{rules, ◌≡◌, ◌-◌, ◌<◌, ◌∙◌, suc, length, sym, ap, arith}
use Rattle.bril_tree.proofs.Elements.{All-at}
use Rattle.side_traces.specs.Exits.{exit_of}
use Rattle.side_traces.specs.Made.{HasGuardBelow}
use Rattle.side_traces.proofs.Retargeting.{sided-long, sided-start, sided-step}
use Rattle.side_traces.proofs.guards.retarget_all.Goals as goal

pub loop-place-init : goal.loop-place-init
loop-place-init c = record {
  within = let e = c.len-place.ensures in omega (arith, e);
  same = sided-start c.args.exits.now c.len-place.result c.args.items.now.items c.len-place.ensures;
}

pub index_mut-requires : goal.index_mut-requires
index_mut-requires c =
    let exits = c.args.exits.now in
    let w = exit_of c.exit-exit.result in
    let below = All-at (HasGuardBelow (length c.args.items.now.items)) exits (c.loop-place.place - 1) w c.requires (sym c.exit-exit.ensures) in
    let long = ap length c.loop-place.invariant.same ∙ sided-long _ 0 c.args.items.now.items in
    let less : c.exit-exit.result.pair.guard < length c.loop-place.items.items = omega (arith, below, long) in
    search rules

pub loop-place-preserved : goal.loop-place-preserved
loop-place-preserved c =
    let exits = c.args.exits.now in
    let place = c.loop-place.place in
    let w = exit_of c.exit-exit.result in
    let below = All-at (HasGuardBelow (length c.args.items.now.items)) exits (place - 1) w c.requires (sym c.exit-exit.ensures) in
    let next : place ≡ suc (place - 1) = let p = c.loop-place-test.true in omega (arith, p) in
    record {
      within = let h = c.loop-place.invariant.within in omega (arith, h);
      same = sided-step exits place (place - 1) w c.args.items.now.items c.loop-place.items.items c.index_mut.result.now c.retarget.new.guard next (sym c.exit-exit.ensures) below c.loop-place.invariant.same c.index_mut.ensures.value c.in_ok-retarget.ensures;
    }
