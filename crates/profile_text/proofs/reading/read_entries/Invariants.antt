use Rattle.std.proofs.Common.{length}
use Rattle.profile_text.proofs.Faults.{AreReadTo}
use Rattle.profile_text.proofs.reading.read_entries.Given as goal

abbrev pub invariant-lines : goal.invariant-lines
invariant-lines l = AreReadTo l.version l.source l.rest l.line l.entries

abbrev pub decreases-lines : goal.decreases-lines
decreases-lines l = length l.rest
