use Rattle.std.proofs.Common.{◌≡◌, ◌<◌, ◌∙◌, length, subst, arith}
use Rattle.bril_tree.proofs.Elements.{get_inside, zip-long}
use Rattle.shadow_place.specs.Placement.{TellsLiveIn}
use Rattle.rv64_emit_laws.specs.Homes.{homes_of}
use Rattle.rv64_emit_laws.specs.layout.Image.{entry_at}
use Rattle.rv64_emit.specs.Placed.{all_homes}
use Rattle.rv64_emit.specs.PointLists.{ArePointsBefore}
use Rattle.rv64_emit.proofs.Placed.{entries_are, entries_at, entries_few, next_start, tables_long}
use Rattle.rv64_emit.proofs.Pointing.{told_there}
use Rattle.rv64_emit.proofs.PointLists.{all_points}
use Rattle.rv64_emit.proofs.points.points_of.Goals as goal

pub bounds-lives-number : goal.bounds-lives-number
bounds-lives-number c =
    let homes = all_homes c.args.homes.now in
    let slots = c.args.slots.now in
    let tables = c.as_slice-entries-items.ensures ∙ (c.in_ok-tables.ensures {u = tt}).entries in
    let at = entries_at homes slots c.as_slice-entries-items.result.now tables c.loop-number.number c.entries-item.result c.loop-number-test.true c.entries-item.is in
    omega (arith, at.0, c.requires.functions, zip-long TellsLiveIn c.args.prog.now.funcs c.args.lives.now c.requires.lives)

pub push_points-requires-clause-inside : goal.push_points-requires-clause-inside
push_points-requires-clause-inside c =
    let homes = all_homes c.args.homes.now in
    let slots = c.args.slots.now in
    let tables = c.as_slice-entries-items.ensures ∙ (c.in_ok-tables.ensures {u = tt}).entries in
    let at = entries_at homes slots c.as_slice-entries-items.result.now tables c.loop-number.number c.entries-item.result c.loop-number-test.true c.entries-item.is in
    omega (arith, at.0, c.requires.functions)

pub push_points-requires-clause-live : goal.push_points-requires-clause-live
push_points-requires-clause-live c =
    let homes = all_homes c.args.homes.now in
    let slots = c.args.slots.now in
    let tables = c.as_slice-entries-items.ensures ∙ (c.in_ok-tables.ensures {u = tt}).entries in
    let at = entries_at homes slots c.as_slice-entries-items.result.now tables c.loop-number.number c.entries-item.result c.loop-number-test.true c.entries-item.is in
    let inside : c.loop-number.number < length c.args.prog.now.funcs = omega (arith, at.0, c.requires.functions) in
    told_there c.args.prog.now c.args.lives.now c.requires.lives c.loop-number.number c.index-lives-number.result inside c.index-lives-number.is

pub push_points-requires-clause-some : goal.push_points-requires-clause-some
push_points-requires-clause-some c =
    let homes = all_homes c.args.homes.now in
    let slots = c.args.slots.now in
    let tables = c.as_slice-entries-items.ensures ∙ (c.in_ok-tables.ensures {u = tt}).entries in
    let at = entries_at homes slots c.as_slice-entries-items.result.now tables c.loop-number.number c.entries-item.result c.loop-number-test.true c.entries-item.is in
    (next_start homes slots c.loop-number.number at.0 c.as_slice.result.now (c.as_slice.ensures ∙ at.1)).0

pub push_points-requires-clause-few : goal.push_points-requires-clause-few
push_points-requires-clause-few c =
    let homes = all_homes c.args.homes.now in
    let slots = c.args.slots.now in
    let tables = c.as_slice-entries-items.ensures ∙ (c.in_ok-tables.ensures {u = tt}).entries in
    let at = entries_at homes slots c.as_slice-entries-items.result.now tables c.loop-number.number c.entries-item.result c.loop-number-test.true c.entries-item.is in
    let g = get_inside slots.funcs c.loop-number.number at.0 in
    entries_few homes slots c.requires.fits c.loop-number.number g.0 g.1 c.as_slice.result.now (c.as_slice.ensures ∙ at.1)

pub loop-number-preserved : goal.loop-number-preserved
loop-number-preserved c =
    let homes = all_homes c.args.homes.now in
    let slots = c.args.slots.now in
    let tables = c.as_slice-entries-items.ensures ∙ (c.in_ok-tables.ensures {u = tt}).entries in
    let at = entries_at homes slots c.as_slice-entries-items.result.now tables c.loop-number.number c.entries-item.result c.loop-number-test.true c.entries-item.is in
    let g = get_inside slots.funcs c.loop-number.number at.0 in
    let pushed = c.in_ok-push_points.ensures {u = tt} in
    pushed (entry_at homes slots) (λ k. entries_are homes slots c.loop-number.number g.0 g.1 c.as_slice.result.now (c.as_slice.ensures ∙ at.1) k) c.loop-number.invariant

pub returns : goal.returns
returns c =
    let homes = all_homes c.args.homes.now in
    let slots = c.args.slots.now in
    let p = c.args.prog.now in
    let tables = c.as_slice-entries-items.ensures ∙ (c.in_ok-tables.ensures {u = tt}).entries in
    let all : c.loop-number.number ≡ length p.funcs = omega (arith, c.loop-number-test.false, c.loop-number.auto.number-end, tables_long homes slots c.as_slice-entries-items.result.now tables, c.requires.functions) in
    all_points (homes_of homes) (entry_at homes slots) p c.loop-number.points (subst (λ n. ArePointsBefore (homes_of homes) (entry_at homes slots) p n 0 c.loop-number.points) all c.loop-number.invariant)
