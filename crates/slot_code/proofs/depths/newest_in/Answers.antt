use Rattle.std.proofs.Common.{◌<◌, sym, subst}
use Rattle.slot_code.specs.Lowered.{newest_open}
use Rattle.slot_code.proofs.Points.{next_told}
use Rattle.slot_code.proofs.depths.newest_in.Goals as goal

pub loop-point-preserved : goal.loop-point-preserved
loop-point-preserved c =
    next_told newest_open c.args.graph.now.sites c.loop-point.point c.newest_open.result c.loop-point.newest c.push.new.self
    (subst (λ n. c.loop-point.point < n) (sym c.requires.points) c.loop-point-test.true) c.newest_open.ensures c.in_ok-push.ensures.ok c.loop-point.invariant
