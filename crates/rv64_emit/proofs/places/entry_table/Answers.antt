use Rattle.std.proofs.Common.{◌≡◌, ◌+◌, length, map, sym, ap, ◌∙◌, arith}
use Rattle.std.specs.List.{range_with_len}
use Rattle.rv64_emit_laws.specs.layout.Image.{entry_at}
use Rattle.rv64_emit_laws.specs.layout.Items.{keep_way_size}
use Rattle.rv64_emit_laws.proofs.lemmas.layout.Placing.{entry_is}
use Rattle.rv64_emit.specs.Placed.{all_homes, homes_in}
use Rattle.rv64_emit.specs.Tables.{item_count}
use Rattle.rv64_emit.proofs.Placed.{turn, function_few, table_next}
use Rattle.rv64_emit.proofs.places.entry_table.Goals as goal

pub overflow_add-at : goal.overflow_add-at
overflow_add-at c =
    let few = function_few (all_homes c.args.homes.now) c.args.slots.now c.requires.fits c.args.number c.function_at-func.result.now (homes_in c.in_function-own.result) c.function_at-func.ensures c.in_function-own.ensures in
    omega (arith, c.requires.start, c.keep_way_size_of.ensures.value)

pub size_of-at-requires-clause-movable : goal.size_of-at-requires-clause-movable
size_of-at-requires-clause-movable c =
    let t = turn (all_homes c.args.homes.now) c.args.slots.now c.requires.fits c.args.number c.function_at-func.result.now (homes_in c.in_function-own.result) c.function_at-func.ensures c.in_function-own.ensures c.as_slice-item-items.result.now c.as_slice-item-items.ensures c.loop-point.point c.item-item.result c.loop-point-test.true c.item-item.is in
    t.movable

pub size_of-at-requires-clause-fits : goal.size_of-at-requires-clause-fits
size_of-at-requires-clause-fits c =
    let t = turn (all_homes c.args.homes.now) c.args.slots.now c.requires.fits c.args.number c.function_at-func.result.now (homes_in c.in_function-own.result) c.function_at-func.ensures c.in_function-own.ensures c.as_slice-item-items.result.now c.as_slice-item-items.ensures c.loop-point.point c.item-item.result c.loop-point-test.true c.item-item.is in
    t.fits

pub size_of-at-requires-clause-few : goal.size_of-at-requires-clause-few
size_of-at-requires-clause-few c =
    let t = turn (all_homes c.args.homes.now) c.args.slots.now c.requires.fits c.args.number c.function_at-func.result.now (homes_in c.in_function-own.result) c.function_at-func.ensures c.in_function-own.ensures c.as_slice-item-items.result.now c.as_slice-item-items.ensures c.loop-point.point c.item-item.result c.loop-point-test.true c.item-item.is in
    omega (arith, t.next, t.inside)

pub overflow_add-at-in-loop-point : goal.overflow_add-at-in-loop-point
overflow_add-at-in-loop-point c =
    let t = turn (all_homes c.args.homes.now) c.args.slots.now c.requires.fits c.args.number c.function_at-func.result.now (homes_in c.in_function-own.result) c.function_at-func.ensures c.in_function-own.ensures c.as_slice-item-items.result.now c.as_slice-item-items.ensures c.loop-point.point c.item-item.result c.loop-point-test.true c.item-item.is in
    omega (arith, t.next, t.inside, t.entry, c.loop-point.invariant.1, c.size_of-at.ensures)

pub loop-point-init : goal.loop-point-init
loop-point-init c =
    let homes = all_homes c.args.homes.now in
    let size : keep_way_size (homes_in c.in_function-own.result) ≡ keep_way_size (homes c.args.number) = ap keep_way_size c.in_function-own.ensures in (
      c.new-entries.ensures,
      omega (arith, c.requires.start, c.keep_way_size_of.ensures.value, size, entry_is homes c.args.slots.now c.args.number c.function_at-func.result.now 0 c.function_at-func.ensures),
    )

pub loop-point-preserved : goal.loop-point-preserved
loop-point-preserved c =
    let t = turn (all_homes c.args.homes.now) c.args.slots.now c.requires.fits c.args.number c.function_at-func.result.now (homes_in c.in_function-own.result) c.function_at-func.ensures c.in_function-own.ensures c.as_slice-item-items.result.now c.as_slice-item-items.ensures c.loop-point.point c.item-item.result c.loop-point-test.true c.item-item.is in
    let pushed = c.in_ok-push.ensures {u = tt} in (
      table_next (entry_at (all_homes c.args.homes.now) c.args.slots.now c.args.number) c.loop-point.entries c.push.new.self c.loop-point.point c.loop-point.at pushed.ok c.loop-point.invariant.1 c.loop-point.invariant.0,
      omega (arith, t.next, t.entry, t.next_entry, c.loop-point.invariant.1, c.size_of-at.ensures),
    )

pub returns : goal.returns
returns c =
    let entry = entry_at (all_homes c.args.homes.now) c.args.slots.now c.args.number in
    let pushed = c.in_ok-push-2.ensures {u = tt} in
    let all : c.loop-point.point ≡ length c.function_at-func.result.now.code = omega (arith, ap length c.as_slice-item-items.ensures, c.loop-point-test.false, c.loop-point.auto.point-end) in
    table_next entry c.loop-point.entries c.push-2.new.self c.loop-point.point c.loop-point.at pushed.ok c.loop-point.invariant.1 c.loop-point.invariant.0
    ∙ ap (λ n. map entry (range_with_len 0 (n + 1))) all
    ∙ sym (ap (λ o. map entry (range_with_len 0 (item_count o + 1))) c.function_at-func.ensures)
