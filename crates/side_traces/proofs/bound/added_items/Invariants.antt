use Rattle.std.proofs.Common.{◌≡◌, ◌+◌, min, take}
use Rattle.side_traces.specs.Made.{added_by}
use Rattle.side_traces.proofs.bound.added_items.Given as goal

abbrev pub invariant-loop-place : goal.invariant-loop-place
invariant-loop-place l = l.bound ≡ min (l.items + added_by (take l.place l.pairs)) 18446744073709551615
