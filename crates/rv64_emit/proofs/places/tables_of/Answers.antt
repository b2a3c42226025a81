use Rattle.std.proofs.Common.{◌≡◌, ◌+◌, ◌<◌, length, map, ap, ◌∙◌, arith}
use Rattle.std.specs.List.{range_with_len}
use Rattle.rv64_emit_laws.specs.layout.Image.{start_at}
use Rattle.rv64_emit_laws.specs.layout.Items.{leave_size}
use Rattle.rv64_emit_laws.proofs.lemmas.layout.Placing.{starts_most}
use Rattle.rv64_emit.specs.Placed.{all_homes, homes_in}
use Rattle.rv64_emit.specs.Tables.{entry_table}
use Rattle.rv64_emit.proofs.Placed.{next_start, table_next}
use Rattle.rv64_emit.proofs.places.tables_of.Goals as goal

pub entry_table-requires-clause-start : goal.entry_table-requires-clause-start
entry_table-requires-clause-start c = c.loop-number.invariant.at

pub last_of-requires : goal.last_of-requires
last_of-requires c =
    let inside : c.loop-number.number < length c.args.slots.now.funcs = omega (arith, ap length c.as_slice-number-end.ensures, c.loop-number-test.true, c.loop-number.auto.number-end) in
    (next_start (all_homes c.args.homes.now) c.args.slots.now c.loop-number.number inside c.as_slice.result.now (c.as_slice.ensures ∙ c.in_ok-own.ensures {u = tt})).0

pub overflow_add-at : goal.overflow_add-at
overflow_add-at c =
    let inside : c.loop-number.number < length c.args.slots.now.funcs = omega (arith, ap length c.as_slice-number-end.ensures, c.loop-number-test.true, c.loop-number.auto.number-end) in
    let next = (next_start (all_homes c.args.homes.now) c.args.slots.now c.loop-number.number inside c.as_slice.result.now (c.as_slice.ensures ∙ c.in_ok-own.ensures {u = tt})).1 in
    let size : leave_size (homes_in c.in_function-here.result) ≡ leave_size (all_homes c.args.homes.now c.loop-number.number) = ap leave_size c.in_function-here.ensures in
    omega (arith, c.last_of.ensures, next, size, c.leave_size_of.ensures, starts_most (all_homes c.args.homes.now) c.args.slots.now (c.loop-number.number + 1), c.requires.few)

pub loop-number-preserved : goal.loop-number-preserved
loop-number-preserved c =
    let homes = all_homes c.args.homes.now in
    let inside : c.loop-number.number < length c.args.slots.now.funcs = omega (arith, ap length c.as_slice-number-end.ensures, c.loop-number-test.true, c.loop-number.auto.number-end) in
    let next = (next_start homes c.args.slots.now c.loop-number.number inside c.as_slice.result.now (c.as_slice.ensures ∙ c.in_ok-own.ensures {u = tt})).1 in
    let size : leave_size (homes_in c.in_function-here.result) ≡ leave_size (all_homes c.args.homes.now c.loop-number.number) = ap leave_size c.in_function-here.ensures in
    let start = c.in_ok-push.ensures {u = tt} in
    let own = c.in_ok-push-2.ensures {u = tt} in
    record {
      starts = table_next (start_at homes c.args.slots.now) c.loop-number.starts c.push.new.self c.loop-number.number c.loop-number.at start.ok c.loop-number.invariant.at c.loop-number.invariant.starts;
      entries = table_next (entry_table homes c.args.slots.now) c.loop-number.entries c.push-in-loop-number.new.self c.loop-number.number c.in_ok-own.own own.ok (c.in_ok-own.ensures {u = tt}) c.loop-number.invariant.entries;
      at = omega (arith, c.last_of.ensures, next, size, c.leave_size_of.ensures);
    }

pub returns-clause-starts : goal.returns-clause-starts
returns-clause-starts c =
    let start = start_at (all_homes c.args.homes.now) c.args.slots.now in
    let pushed = c.in_ok-push-3.ensures {u = tt} in
    let all : c.loop-number.number ≡ length c.args.slots.now.funcs = omega (arith, ap length c.as_slice-number-end.ensures, c.loop-number-test.false, c.loop-number.auto.number-end) in
    table_next start c.loop-number.starts c.push-2.new.self c.loop-number.number c.loop-number.at pushed.ok c.loop-number.invariant.at c.loop-number.invariant.starts
    ∙ ap (λ n. map start (range_with_len 0 (n + 1))) all

pub returns-clause-entries : goal.returns-clause-entries
returns-clause-entries c =
    let all : c.loop-number.number ≡ length c.args.slots.now.funcs = omega (arith, ap length c.as_slice-number-end.ensures, c.loop-number-test.false, c.loop-number.auto.number-end) in
    c.loop-number.invariant.entries ∙ ap (λ n. map (entry_table (all_homes c.args.homes.now) c.args.slots.now) (range_with_len 0 n)) all
