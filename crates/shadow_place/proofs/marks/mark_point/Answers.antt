use Rattle.std.proofs.Common.{◌≡◌, Some, sym, ap, ◌∙◌}
use Rattle.std.specs.Prelude.{slice_get}
use Rattle.flow_graph.specs.Location.{number_at}
use Rattle.shadow_place.proofs.Marking.{marks_it}
use Rattle.shadow_place.proofs.marks.mark_point.Goals as goal

pub returns-then-is_live_at : goal.returns-then-is_live_at
returns-then-is_live_at c =
    let a = c.args.known.now in
    let at : number_at (slice_get a.func.now.code c.args.point) ≡ Some c.in-Some.number = ap (λ code. number_at (slice_get code c.args.point)) (sym c.as_slice.ensures) ∙ (sym c.in_ok-number.ensures.number ∙ c.in-Some.is) in
    marks_it a c.args.level c.args.label c.args.point c.in-Some.number c.is_live_at.result c.site_at.result c.args.rows.now.items c.mark_if.new.rows.items at c.is_live_at.ensures c.if-is_live_at.true c.site_at.ensures c.mark_if.ensures
