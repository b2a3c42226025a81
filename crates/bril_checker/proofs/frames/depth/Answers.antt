use Rattle.std.proofs.Common.{◌≡◌, length, ap, arith}
use Rattle.bril_checker.proofs.Depth.{depth_step, is_depth, depth_few}
use Rattle.bril_checker.proofs.frames.depth.Goals as goal

pub loop-point-preserved : goal.loop-point-preserved
loop-point-preserved c =
    let code = c.args.func.now.code in
    let same : length c.as_slice.result.now ≡ length code = ap length c.as_slice.ensures in
    let points = c.requires.graph.points in
    depth_step code c.args.graph.now c.requires.graph c.loop-point.point c.open_sites.result c.open_sites.ensures.reached c.open_sites.ensures.unreached
    c.loop-point.depth c.max-depth.result c.max-depth.ensures (omega arith) c.loop-point.invariant

pub returns-clause-depth : goal.returns-clause-depth
returns-clause-depth c =
    let code = c.args.func.now.code in
    let same : length c.as_slice.result.now ≡ length code = ap length c.as_slice.ensures in
    is_depth code c.args.graph.now c.requires.graph c.requires.sound c.loop-point.depth c.loop-point.invariant.0
    c.loop-point.point (omega arith) c.loop-point.invariant.1

pub returns-clause-few : goal.returns-clause-few
returns-clause-few c =
    depth_few c.args.func.now.code c.args.graph.now c.requires.graph c.requires.sound c.loop-point.depth c.loop-point.invariant.0
