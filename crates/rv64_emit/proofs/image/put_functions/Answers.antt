use Rattle.std.proofs.Common.{◌≡◌, ◌++◌, length, map, ◌∙◌, subst, arith}
use Rattle.rv64_words.specs.Encoding.{encoded}
use Rattle.rv64_emit_laws.specs.layout.Image.{joined, function_guards_at, function_words_at}
use Rattle.rv64_emit.specs.Placed.{all_homes}
use Rattle.rv64_emit.proofs.Placed.{entries_at, function_here, tables_long}
use Rattle.rv64_emit.proofs.image.put_functions.Goals as goal

pub put_function-requires-clause-inside : goal.put_function-requires-clause-inside
put_function-requires-clause-inside c =
    (entries_at (all_homes c.args.homes.now) c.args.slots.now c.args.entries.now c.requires.entries c.loop-number.number c.index-entries-number.result c.loop-number-test.true c.index-entries-number.is).0

pub put_function-requires-clause-entries : goal.put_function-requires-clause-entries
put_function-requires-clause-entries c =
    c.as_slice.ensures ∙ (entries_at (all_homes c.args.homes.now) c.args.slots.now c.args.entries.now c.requires.entries c.loop-number.number c.index-entries-number.result c.loop-number-test.true c.index-entries-number.is).1

pub put_function-requires-clause-here : goal.put_function-requires-clause-here
put_function-requires-clause-here c = function_here (all_homes c.args.homes.now) c.args.slots.now c.args.code.now c.loop-number.code c.loop-number.number c.requires.here c.loop-number.invariant.0

pub push_guards-requires-clause-inside : goal.push_guards-requires-clause-inside
push_guards-requires-clause-inside c =
    (entries_at (all_homes c.args.homes.now) c.args.slots.now c.args.entries.now c.requires.entries c.loop-number.number c.index-entries-number.result c.loop-number-test.true c.index-entries-number.is).0

pub push_guards-requires-clause-entries : goal.push_guards-requires-clause-entries
push_guards-requires-clause-entries c =
    c.as_slice-in-loop-number.ensures ∙ (entries_at (all_homes c.args.homes.now) c.args.slots.now c.args.entries.now c.requires.entries c.loop-number.number c.index-entries-number.result c.loop-number-test.true c.index-entries-number.is).1

pub returns-clause-words : goal.returns-clause-words
returns-clause-words c =
    let all : c.loop-number.number ≡ length c.args.slots.now.funcs = omega (arith, c.loop-number-test.false, c.loop-number.auto.number-end, tables_long (all_homes c.args.homes.now) c.args.slots.now c.args.entries.now c.requires.entries) in
    subst (λ n. c.loop-number.code ≡ c.args.code.now ++ map encoded (joined (function_words_at (all_homes c.args.homes.now) c.args.slots.now) n)) all c.loop-number.invariant.0

pub returns-clause-guards : goal.returns-clause-guards
returns-clause-guards c =
    let all : c.loop-number.number ≡ length c.args.slots.now.funcs = omega (arith, c.loop-number-test.false, c.loop-number.auto.number-end, tables_long (all_homes c.args.homes.now) c.args.slots.now c.args.entries.now c.requires.entries) in
    subst (λ n. c.loop-number.guards ≡ c.args.guards.now ++ joined (function_guards_at (all_homes c.args.homes.now) c.args.slots.now) n) all c.loop-number.invariant.1
