use Rattle.std.proofs.Common.{◌≡◌, map, take}
use Rattle.trace_recorder.specs.Kept.{entry_at}
use Rattle.trace_recorder.proofs.parts.Parts.entries_at.Given as goal

abbrev pub invariant-loop-rank : goal.invariant-loop-rank
invariant-loop-rank l = l.entries.items ≡ map (entry_at l.self.paths.log.items l.self.paths.held.items) (take l.rank-index l.ranks)
