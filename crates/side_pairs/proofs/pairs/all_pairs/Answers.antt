use Rattle.std.proofs.Common.{arith}
use Rattle.side_pairs.proofs.Adding.{goes-all, goes-more}
use Rattle.side_pairs.proofs.pairs.all_pairs.Goals as goal

pub loop-point-preserved : goal.loop-point-preserved
loop-point-preserved c = goes-more c.args.code.now c.loop-point.point c.loop-point.draft.pairs c.pair_at.new.draft.pairs (omega arith) c.loop-point.invariant c.in_ok-pair_at.ensures

pub returns : goal.returns
returns c = goes-all c.args.code.now c.loop-point.point c.loop-point.draft.pairs (omega arith) c.loop-point.invariant
