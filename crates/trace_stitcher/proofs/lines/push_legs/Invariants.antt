use Rattle.std.proofs.Common.{◌≡◌, ◌≤◌, ◌++◌, map, drop}
use Rattle.trace_laws.specs.lines.Lines.{TraceNames, bool_type, leg_lines}
use Rattle.trace_paths.specs.Walked.{leg_of}
use Rattle.trace_stitcher.specs.Sources.{AreNamesOf, item_of}
use Rattle.trace_stitcher.proofs.lines.push_legs.Given as goal

abbrev pub invariant-loop-leg : goal.invariant-loop-leg
invariant-loop-leg l = record {
  few : l.nots ≤ l.leg-index;
  same : (names : TraceNames) → AreNamesOf l.source names
      → l.lines ++ leg_lines bool_type (item_of l.source) names l.nots (map leg_of (drop l.leg-index l.legs)) ≡ l.initial.lines ++ leg_lines bool_type (item_of l.source) names 0 (map leg_of l.legs);
}
