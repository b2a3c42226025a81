use Rattle.std.proofs.Common.{◌≡◌, ◌++◌, take}
use Rattle.std.specs.Prelude.{slice_get}
use Rattle.side_laws.specs.Sided.{kept_lines}
use Rattle.side_traces.proofs.lines.push_kept.Given as goal

abbrev pub invariant-loop-point : goal.invariant-loop-point
invariant-loop-point l = l.lines ≡ l.initial.lines ++ kept_lines (slice_get l.code) (take l.point-index l.kept)
