use Rattle.std.proofs.Common.{length}
use Rattle.rv64_listing.proofs.Listings.{IsReadTo}
use Rattle.rv64_listing.proofs.reading.read_lines.Given as goal

abbrev pub invariant-lines : goal.invariant-lines
invariant-lines l = IsReadTo l.source l.rest l.before l.words

abbrev pub decreases-lines : goal.decreases-lines
decreases-lines l = length l.rest
