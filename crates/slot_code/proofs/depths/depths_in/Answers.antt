use Rattle.std.proofs.Common.{◌<◌, sym, subst}
use Rattle.slot_code.specs.Lowered.{open_count}
use Rattle.slot_code.proofs.Points.{next_told}
use Rattle.slot_code.proofs.depths.depths_in.Goals as goal

pub loop-point-preserved : goal.loop-point-preserved
loop-point-preserved c =
    next_told open_count c.args.graph.now.sites c.loop-point.point c.open_count.result c.loop-point.depths c.push.new.self
    (subst (λ n. c.loop-point.point < n) (sym c.requires.points) c.loop-point-test.true) c.open_count.ensures c.in_ok-push.ensures.ok c.loop-point.invariant
