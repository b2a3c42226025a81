use Rattle.std.specs.Prelude.{slice_get, slice_index}
use Rattle.std.proofs.lemmas.List.{get_or_default}
use Rattle.side_traces.proofs.OneExit.{kept-more}
use Rattle.side_traces.proofs.lines.push_kept.Goals as goal

pub loop-point-preserved : goal.loop-point-preserved
loop-point-preserved c =
    let kept = c.args.kept.now in
    let k = c.loop-point.point-index in
    let i = slice_index kept k in
    kept-more (slice_get c.args.code.now) kept k i c.args.lines.now c.loop-point.lines c.push_item.new.lines c.loop-point-test.true (get_or_default kept k i 0 c.loop-point-test.true) c.loop-point.invariant c.in_ok-push_item.ensures
