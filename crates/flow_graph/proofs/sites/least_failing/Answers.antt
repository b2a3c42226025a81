use Rattle.std.proofs.Common.{◌≡◌, ◌+◌, None, sym, subst, length, arith}
use Rattle.flow_graph.specs.Faults.{IsLeastOf, FailsBefore}
use Rattle.flow_graph.specs.declared.branches.Branches.TheVariants.{Nowhere}
use Rattle.flow_graph.proofs.Failing.{least_turn, least_fails}
use Rattle.flow_graph.proofs.sites.least_failing.Goals as goal

pub loop-point-preserved : goal.loop-point-preserved
loop-point-preserved c =
    let code = c.args.code.now in
    let rows = c.args.rows.now in
    let visits = c.args.visits.now in
    subst (λ o. IsLeastOf (FailsBefore code rows visits (c.loop-point.point + 1)) o) (sym c.lesser-least.ensures)
    (least_turn code rows visits c.loop-point.point Nowhere None c.loop-point.least c.failing_at.result (omega arith) (omega (arith, c.requires.rows.points, c.requires.visits.points)) c.loop-point.invariant c.failing_at.ensures)

pub returns : goal.returns
returns c =
    let code = c.args.code.now in
    let rows = c.args.rows.now in
    let visits = c.args.visits.now in
    let ended : c.loop-point.point ≡ length rows = omega arith in
    least_fails code rows visits (record { points = c.requires.rows.points; at = c.requires.rows.at })
    (record { points = c.requires.visits.points; visited = c.requires.visits.visited; reached = c.requires.visits.reached })
    c.loop-point.least (subst (λ n. IsLeastOf (FailsBefore code rows visits n) c.loop-point.least) ended c.loop-point.invariant)
