use Rattle.std.proofs.Common.{List, length, ap, arith}
use Rattle.bril_tree.specs.declared.numbered_function.Func.{Func}
use Rattle.bril_tree.proofs.Sizes.{counted-size}
use Rattle.pass_make.proofs.Functions.{shaped_there, there}
use Rattle.side_traces.proofs.Bounding.{bound-more, bound-told}
use Rattle.side_traces.proofs.bound.side_bound.Goals as goal

pub size-bound-requires : goal.size-bound-requires
size-bound-requires c = counted-size c.args.prog.now c.requires.counted

pub paired_guards-requires-clause-shaped : goal.paired_guards-requires-clause-shaped
paired_guards-requires-clause-shaped c = shaped_there c.args.prog.now c.as_slice-func-items.result.now c.as_slice-func-items.ensures c.loop-func.func-index c.func-item.result c.loop-func-test.true c.func-item.is c.requires.accepted

pub loop-func-preserved : goal.loop-func-preserved
loop-func-preserved c =
    bound-more c.args.prog.now c.loop-func.func-index c.func-item.result c.in_ok-pairs.pairs c.loop-func.bound c.added_items-bound.result
    (there c.args.prog.now c.as_slice-func-items.result.now c.as_slice-func-items.ensures c.loop-func.func-index c.func-item.result c.loop-func-test.true c.func-item.is)
    c.in_ok-pairs.ensures c.loop-func.invariant c.added_items-bound.ensures

pub returns : goal.returns
returns c =
    let all = ap (λ (fs : List Func). length fs) c.as_slice-func-items.ensures in
    let over = c.loop-func-test.false in
    let within = c.loop-func.auto.func-index-end in
    bound-told c.args.prog.now c.loop-func.func-index c.loop-func.bound (omega (arith, all, over, within)) c.loop-func.invariant
