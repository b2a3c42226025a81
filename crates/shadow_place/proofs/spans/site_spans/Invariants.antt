use Rattle.std.proofs.Common.{◌≡◌, length}
use Rattle.shadow_place.specs.Spans.{HaveSites}
use Rattle.shadow_place.proofs.spans.site_spans.Given as goal

abbrev pub invariant-loop-point : goal.invariant-loop-point
invariant-loop-point l = record {
  long : length l.spans.items ≡ l.points;
  open_there : HaveSites l.graph.sites l.point l.spans.items;
}
