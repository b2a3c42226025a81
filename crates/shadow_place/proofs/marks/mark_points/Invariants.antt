use Rattle.std.proofs.Common.{take}
use Rattle.shadow_place.specs.Marks.{AddsAll, IsMarkedIn}
use Rattle.shadow_place.proofs.marks.mark_points.Given as goal

-- the marks of the points so far
abbrev pub invariant-loop-point : goal.invariant-loop-point
invariant-loop-point l = AddsAll (IsMarkedIn l.known l.level l.label (take l.point-index l.points)) l.fn.rows.items l.rows.items
