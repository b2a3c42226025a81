use Rattle.std.proofs.Common.{◌≡◌, true, take}
use Rattle.rv64_listing.specs.Listing.{lacks_lf}
use Rattle.rv64_listing.proofs.reading.first_line.Given as goal

abbrev pub invariant-loop-i : goal.invariant-loop-i
invariant-loop-i l = lacks_lf (take l.i l.source) ≡ true
