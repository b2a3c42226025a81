use Rattle.shadow_place.specs.Marks.{AddsAll, IsMarkedBelow, first_rows}
use Rattle.shadow_place.proofs.saved.saved_rows.Given as goal

-- the marks of the levels so far
abbrev pub invariant-loop-level : goal.invariant-loop-level
invariant-loop-level l = AddsAll (IsMarkedBelow l.known l.level) (first_rows l.known.lowered.now.variables l.known.func.now.code) l.rows.items
