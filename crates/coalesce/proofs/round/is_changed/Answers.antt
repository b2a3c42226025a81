use Rattle.std.proofs.Common.{length, ap, arith}
use Rattle.bril_tree.proofs.Elements.{get_at}
use Rattle.coalesce.proofs.Loop.{none-in_all, none-more, tree-fewer, tree_within}
use Rattle.coalesce.proofs.round.is_changed.Goals as goal

pub bounds-made-number : goal.bounds-made-number
bounds-made-number c = tree_within c.args.prog.now c.args.tree.now c.requires c.loop-number.number c.as_slice-func-items.result.now c.as_slice-func-items.ensures c.as_slice-made.result.now c.as_slice-made.ensures c.loop-number-test.true

pub returns-then-has_fewer-clause-fewer : goal.returns-then-has_fewer-clause-fewer
returns-then-has_fewer-clause-fewer c = λ _.
    let P = c.args.prog.now in
    let tree = c.args.tree.now in
    let within = tree_within P tree c.requires c.loop-number.number c.as_slice-func-items.result.now c.as_slice-func-items.ensures c.as_slice-made.result.now c.as_slice-made.ensures c.loop-number-test.true in
    tree-fewer P tree c.requires c.loop-number.number c.func-item.result c.index-made-number.result
    (get_at c.as_slice-func-items.result.now P.funcs c.as_slice-func-items.ensures c.loop-number.number c.func-item.result c.loop-number-test.true c.func-item.is)
    (get_at c.as_slice-made.result.now tree.funcs c.as_slice-made.ensures c.loop-number.number c.index-made-number.result within c.index-made-number.is)
    (c.has_fewer.ensures.fewer c.if-has_fewer.true)

pub loop-number-preserved : goal.loop-number-preserved
loop-number-preserved c =
    let P = c.args.prog.now in
    let tree = c.args.tree.now in
    let within = tree_within P tree c.requires c.loop-number.number c.as_slice-func-items.result.now c.as_slice-func-items.ensures c.as_slice-made.result.now c.as_slice-made.ensures c.loop-number-test.true in
    none-more P tree c.requires c.loop-number.number c.func-item.result c.index-made-number.result
    (get_at c.as_slice-func-items.result.now P.funcs c.as_slice-func-items.ensures c.loop-number.number c.func-item.result c.loop-number-test.true c.func-item.is)
    (get_at c.as_slice-made.result.now tree.funcs c.as_slice-made.ensures c.loop-number.number c.index-made-number.result within c.index-made-number.is)
    (c.has_fewer.ensures.as_many c.if-has_fewer.false) c.loop-number.invariant

pub returns-clause-none : goal.returns-clause-none
returns-clause-none c = λ _. none-in_all c.args.prog.now c.loop-number.number (let over = c.loop-number-test.false in omega (arith, ap length c.as_slice-func-items.ensures)) c.loop-number.invariant
