use Rattle.std.proofs.Common.{length}
use Rattle.rv64_listing.proofs.Listings.{IsSeenTo}
use Rattle.rv64_listing.proofs.reading.look_at_lines.Given as goal

abbrev pub invariant-lines : goal.invariant-lines
invariant-lines l = IsSeenTo l.source l.rest l.before

abbrev pub decreases-lines : goal.decreases-lines
decreases-lines l = length l.rest
