use Rattle.std.proofs.Common.{sym}
use Rattle.side_pairs.specs.Pairs.{pair_of}
use Rattle.side_traces.proofs.Bounding.{added-more}
use Rattle.side_traces.proofs.bound.added_items.Goals as goal

pub loop-place-preserved : goal.loop-place-preserved
loop-place-preserved c = added-more c.args.items c.args.pairs.now c.loop-place.place (pair_of c.pair.result) c.loop-place.bound c.saturating_add-bound.result (sym c.pair.ensures) c.loop-place.invariant c.saturating_add-bound.ensures
