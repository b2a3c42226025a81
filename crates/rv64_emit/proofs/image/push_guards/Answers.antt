use Rattle.std.proofs.Common.{◌∙◌, arith}
use Rattle.rv64_emit.specs.Placed.{all_homes, homes_in}
use Rattle.rv64_emit.proofs.Placed.{turn, entries_are, entries_few, guards_next}
use Rattle.rv64_emit.proofs.image.push_guards.Goals as goal

pub place-requires-clause-few : goal.place-requires-clause-few
place-requires-clause-few c = entries_few (all_homes c.args.homes.now) c.args.slots.now c.requires.fits c.args.number c.function_at-func.result.now c.function_at-func.ensures c.args.entries.now c.requires.entries

pub push_guard-requires-clause-movable : goal.push_guard-requires-clause-movable
push_guard-requires-clause-movable c =
    let t = turn (all_homes c.args.homes.now) c.args.slots.now c.requires.fits c.args.number c.function_at-func.result.now (homes_in c.in_function-own.result) c.function_at-func.ensures c.in_function-own.ensures c.as_slice-item-items.result.now c.as_slice-item-items.ensures c.loop-point.point c.item-item.result c.loop-point-test.true c.item-item.is in
    t.movable

pub push_guard-requires-clause-few : goal.push_guard-requires-clause-few
push_guard-requires-clause-few c =
    let t = turn (all_homes c.args.homes.now) c.args.slots.now c.requires.fits c.args.number c.function_at-func.result.now (homes_in c.in_function-own.result) c.function_at-func.ensures c.in_function-own.ensures c.as_slice-item-items.result.now c.as_slice-item-items.ensures c.loop-point.point c.item-item.result c.loop-point-test.true c.item-item.is in
    omega (arith, entries_are (all_homes c.args.homes.now) c.args.slots.now c.args.number c.function_at-func.result.now c.function_at-func.ensures c.args.entries.now c.requires.entries c.loop-point.point, c.place.ensures.value, t.next, t.inside, t.entry)

pub loop-point-preserved : goal.loop-point-preserved
loop-point-preserved c =
    let t = turn (all_homes c.args.homes.now) c.args.slots.now c.requires.fits c.args.number c.function_at-func.result.now (homes_in c.in_function-own.result) c.function_at-func.ensures c.in_function-own.ensures c.as_slice-item-items.result.now c.as_slice-item-items.ensures c.loop-point.point c.item-item.result c.loop-point-test.true c.item-item.is in
    let at = entries_are (all_homes c.args.homes.now) c.args.slots.now c.args.number c.function_at-func.result.now c.function_at-func.ensures c.args.entries.now c.requires.entries c.loop-point.point in
    guards_next (all_homes c.args.homes.now) c.args.slots.now c.args.number c.function_at-func.result.now (homes_in c.in_function-own.result) c.in_function-own.ensures c.args.guards.now c.loop-point.guards c.push_guard.new.guards c.loop-point.point c.item-item.result c.place.result
    t.there (c.place.ensures.value ∙ at) (c.in_ok-push_guard.ensures {u = tt}) c.loop-point.invariant
