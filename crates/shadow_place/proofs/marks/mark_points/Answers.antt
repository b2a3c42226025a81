use Rattle.std.proofs.Common.{slice_index}
use Rattle.std.proofs.lemmas.List.{get_or_default}
use Rattle.shadow_place.proofs.Marking.{marks_more}
use Rattle.shadow_place.proofs.marks.mark_points.Goals as goal

pub loop-point-preserved : goal.loop-point-preserved
loop-point-preserved c =
    let points = c.args.points.now in
    let i = c.loop-point.point-index in
    let point = slice_index points i in
    marks_more c.args.known.now c.args.level c.args.label points i point c.args.rows.now.items c.loop-point.rows.items c.mark_point.new.rows.items
    c.loop-point-test.true (get_or_default points i 0 point c.loop-point-test.true) c.loop-point.invariant c.in_ok-mark_point.ensures
