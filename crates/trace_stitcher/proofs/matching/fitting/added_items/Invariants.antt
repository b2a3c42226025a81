use Rattle.std.proofs.Common.{◌≡◌, ◌+◌, min, take}
use Rattle.trace_stitcher.specs.matching.Fitting.{added_by}
use Rattle.trace_stitcher.proofs.matching.fitting.added_items.Given as goal

abbrev pub invariant-loop-fit : goal.invariant-loop-fit
invariant-loop-fit l = l.bound ≡ min (l.items + added_by (take l.fit-index l.found)) 18446744073709551615
