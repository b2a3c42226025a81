use Rattle.std.proofs.Common.{length}
use Rattle.profile_text.proofs.Faults.{IsReadTo}
use Rattle.profile_text.proofs.reading.look_at_lines.Given as goal

abbrev pub invariant-lines : goal.invariant-lines
invariant-lines l = IsReadTo l.version l.source l.rest l.line

abbrev pub decreases-lines : goal.decreases-lines
decreases-lines l = length l.rest
