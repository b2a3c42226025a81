use Rattle.std.proofs.Common.{take}
use Rattle.std.specs.List.{Contains}
use Rattle.coalesce.specs.Classes.{AddsClashes}
use Rattle.coalesce.proofs.clashes.push_clashes.Given as goal

abbrev pub invariant-loop-point : goal.invariant-loop-point
invariant-loop-point l = AddsClashes l.related.func.now.code l.related.marks.now l.x (Contains (take l.point-index l.points)) l.initial.list.items l.list.items
