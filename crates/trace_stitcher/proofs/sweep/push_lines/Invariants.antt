use Rattle.std.proofs.Common.{◌≡◌, ◌++◌, take}
use Rattle.trace_stitcher.proofs.sweep.push_lines.Given as goal

abbrev pub invariant-loop-line : goal.invariant-loop-line
invariant-loop-line l = l.made ≡ l.initial.made ++ take l.line-index l.lines
