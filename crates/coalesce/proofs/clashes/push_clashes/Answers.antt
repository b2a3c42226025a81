use Rattle.coalesce.proofs.Finding.{adds-more}
use Rattle.coalesce.proofs.clashes.push_clashes.Goals as goal

pub loop-point-preserved : goal.loop-point-preserved
loop-point-preserved c =
    adds-more c.args.related.func.now.code c.args.related.marks.now c.args.x c.args.list.now.items c.loop-point.list.items c.push_clash.new.list.items c.args.points.now c.loop-point.point-index c.loop-point-test.true c.loop-point.invariant c.in_ok-push_clash.ensures
