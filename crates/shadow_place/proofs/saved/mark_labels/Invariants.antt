use Rattle.std.proofs.Common.{◌≡◌}
use Rattle.shadow_place.specs.Marks.{AddsAll, IsMarkedBefore}
use Rattle.shadow_place.proofs.saved.mark_labels.Given as goal

-- the marks of the labels so far
abbrev pub invariant-loop-label : goal.invariant-loop-label
invariant-loop-label l = record {
  nodes : l.reached.nodes ≡ l.arcs.nodes;
  marks : AddsAll (IsMarkedBefore l.known l.level l.label) l.fn.rows.items l.rows.items;
}
