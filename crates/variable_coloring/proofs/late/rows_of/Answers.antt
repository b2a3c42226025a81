use Rattle.std.proofs.Common.{arith}
use Rattle.variable_coloring.proofs.Waiting.{rows-all, rows-more}
use Rattle.variable_coloring.proofs.late.rows_of.Goals as goal

pub loop-pair-preserved : goal.loop-pair-preserved
loop-pair-preserved c = rows-more c.args.placed.now c.args.pairs.now c.loop-pair.list.items c.push_rows.new.list.items c.loop-pair.pair-index (record { item = 0; location = 0 }) c.loop-pair-test.true c.loop-pair.invariant c.in_ok-push_rows.ensures

pub returns : goal.returns
returns c = rows-all c.args.placed.now c.args.pairs.now c.loop-pair.list.items c.loop-pair.pair-index (let h = c.loop-pair-test.false in omega (arith, h)) c.loop-pair.invariant
