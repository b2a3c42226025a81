use Rattle.pass_make.proofs.Functions.{shaped_there}
use Rattle.braun_ssa.proofs.Counting.{more-counted}
use Rattle.braun_ssa.proofs.bound.live_entries.Goals as goal

pub of_sound-requires-clause-shaped : goal.of_sound-requires-clause-shaped
of_sound-requires-clause-shaped c = shaped_there c.args.prog.now c.as_slice-func-items.result.now c.as_slice-func-items.ensures c.loop-func.func-index c.func-item.result c.loop-func-test.true c.func-item.is c.requires.accepted

pub count_live_entries-requires-clause-shaped : goal.count_live_entries-requires-clause-shaped
count_live_entries-requires-clause-shaped c = shaped_there c.args.prog.now c.as_slice-func-items.result.now c.as_slice-func-items.ensures c.loop-func.func-index c.func-item.result c.loop-func-test.true c.func-item.is c.requires.accepted

pub loop-func-preserved : goal.loop-func-preserved
loop-func-preserved c =
    more-counted c.args.prog.now c.as_slice-func-items.result.now c.as_slice-func-items.ensures c.loop-func.func-index c.func-item.result c.loop-func-test.true c.func-item.is
    c.loop-func.count c.in_ok-count_live_entries.field-0 c.saturating_add-count.result c.loop-func.invariant c.in_ok-count_live_entries.ensures c.saturating_add-count.ensures
