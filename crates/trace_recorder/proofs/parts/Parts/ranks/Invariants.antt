use Rattle.std.proofs.Common.{◌≡◌, take}
use Rattle.trace_recorder.specs.Kept.{ranks_from, view_of}
use Rattle.trace_recorder.proofs.parts.Parts.ranks.Given as goal

abbrev pub invariant-loop-place : goal.invariant-loop-place
invariant-loop-place l = l.ranks.items ≡ ranks_from (view_of l.self).counts 0 (take l.place l.self.paths.held.items)
