use Rattle.std.proofs.Common.{◌≡◌, ◌++◌, length, map, ap, ◌∙◌, arith}
use Rattle.rv64_words.specs.Encoding.{encoded}
use Rattle.rv64_emit_laws.specs.layout.Image.{joined, item_words_at}
use Rattle.rv64_emit_laws.proofs.lemmas.layout.Reaching.{entries_near}
use Rattle.rv64_emit.specs.Placed.{all_homes, homes_in}
use Rattle.rv64_emit.proofs.Placed.{turn, starts_few, entries_are, entries_few, here_is, items_next, function_put, opening_put}
use Rattle.rv64_emit.proofs.image.put_function.Goals as goal

pub put_item-requires-clause-few_starts : goal.put_item-requires-clause-few_starts
put_item-requires-clause-few_starts c = starts_few (all_homes c.args.homes.now) c.args.slots.now c.requires.fits c.args.starts.now c.requires.starts

pub put_item-requires-clause-few_entries : goal.put_item-requires-clause-few_entries
put_item-requires-clause-few_entries c = entries_few (all_homes c.args.homes.now) c.args.slots.now c.requires.fits c.args.number c.function_at-func.result.now c.function_at-func.ensures c.args.entries.now c.requires.entries

pub put_item-requires-clause-movable : goal.put_item-requires-clause-movable
put_item-requires-clause-movable c =
    let t = turn (all_homes c.args.homes.now) c.args.slots.now c.requires.fits c.args.number c.function_at-func.result.now (homes_in c.in_function-own.result) c.function_at-func.ensures c.in_function-own.ensures c.as_slice-item-items.result.now c.as_slice-item-items.ensures c.loop-point.point c.item-item.result c.loop-point-test.true c.item-item.is in
    t.movable

pub put_item-requires-clause-fits : goal.put_item-requires-clause-fits
put_item-requires-clause-fits c =
    let t = turn (all_homes c.args.homes.now) c.args.slots.now c.requires.fits c.args.number c.function_at-func.result.now (homes_in c.in_function-own.result) c.function_at-func.ensures c.in_function-own.ensures c.as_slice-item-items.result.now c.as_slice-item-items.ensures c.loop-point.point c.item-item.result c.loop-point-test.true c.item-item.is in
    t.fits

pub put_item-requires-clause-here : goal.put_item-requires-clause-here
put_item-requires-clause-here c =
    let t = turn (all_homes c.args.homes.now) c.args.slots.now c.requires.fits c.args.number c.function_at-func.result.now (homes_in c.in_function-own.result) c.function_at-func.ensures c.in_function-own.ensures c.as_slice-item-items.result.now c.as_slice-item-items.ensures c.loop-point.point c.item-item.result c.loop-point-test.true c.item-item.is in
    let begun = opening_put (all_homes c.args.homes.now) c.args.slots.now c.args.number c.function_at-func.result.now (homes_in c.in_function-own.result) c.function_at-func.ensures c.in_function-own.ensures c.args.code.now c.put_keep_way.new.code c.requires.here (c.in_ok-put_keep_way.ensures {u = tt}) in
    let at = here_is (all_homes c.args.homes.now) c.args.slots.now c.args.number c.function_at-func.result.now c.function_at-func.ensures c.put_keep_way.new.code c.loop-point.code c.loop-point.point begun c.loop-point.invariant in
    omega (arith, at, t.next, t.inside, t.entry)

pub put_item-requires-clause-near : goal.put_item-requires-clause-near
put_item-requires-clause-near c = λ to told. (
    let homes = all_homes c.args.homes.now in
    let slots = c.args.slots.now in
    let func = c.function_at-func.result.now in
    let begun = opening_put homes slots c.args.number func (homes_in c.in_function-own.result) c.function_at-func.ensures c.in_function-own.ensures c.args.code.now c.put_keep_way.new.code c.requires.here (c.in_ok-put_keep_way.ensures {u = tt}) in
    let at = here_is homes slots c.args.number func c.function_at-func.ensures c.put_keep_way.new.code c.loop-point.code c.loop-point.point begun c.loop-point.invariant in
    let there = entries_are homes slots c.args.number func c.function_at-func.ensures c.args.entries.now c.requires.entries to in
    let apart = entries_near homes slots c.args.number func c.function_at-func.ensures (λ k i. c.requires.fits.items c.args.number func k i c.function_at-func.ensures) c.loop-point.point to told in
    (omega (arith, apart.0, at, there), omega (arith, apart.1, at, there)))

pub loop-point-preserved : goal.loop-point-preserved
loop-point-preserved c =
    let t = turn (all_homes c.args.homes.now) c.args.slots.now c.requires.fits c.args.number c.function_at-func.result.now (homes_in c.in_function-own.result) c.function_at-func.ensures c.in_function-own.ensures c.as_slice-item-items.result.now c.as_slice-item-items.ensures c.loop-point.point c.item-item.result c.loop-point-test.true c.item-item.is in
    let begun = opening_put (all_homes c.args.homes.now) c.args.slots.now c.args.number c.function_at-func.result.now (homes_in c.in_function-own.result) c.function_at-func.ensures c.in_function-own.ensures c.args.code.now c.put_keep_way.new.code c.requires.here (c.in_ok-put_keep_way.ensures {u = tt}) in
    items_next (all_homes c.args.homes.now) c.args.slots.now c.args.number c.function_at-func.result.now (homes_in c.in_function-own.result) c.function_at-func.ensures c.in_function-own.ensures c.args.starts.now c.args.entries.now c.requires.starts c.requires.entries
    c.put_keep_way.new.code c.loop-point.code c.put_item.new.code c.loop-point.point c.item-item.result begun t.there c.loop-point.invariant (c.in_ok-put_item.ensures {u = tt})

pub returns : goal.returns
returns c =
    let homes = all_homes c.args.homes.now in
    let func = c.function_at-func.result.now in
    let all : c.loop-point.point ≡ length func.code = omega (arith, ap length c.as_slice-item-items.ensures, c.loop-point-test.false, c.loop-point.auto.point-end) in
    let items = c.loop-point.invariant ∙ ap (λ n. c.put_keep_way.new.code ++ map encoded (joined (item_words_at homes c.args.slots.now c.args.number func) n)) all in
    function_put homes c.args.slots.now c.args.number func (homes_in c.in_function-own.result) c.function_at-func.ensures c.in_function-own.ensures c.args.code.now c.put_keep_way.new.code c.loop-point.code c.put_leave.new.code
    (c.in_ok-put_keep_way.ensures {u = tt}) items (c.in_ok-put_leave.ensures {u = tt})
