-- The semicolon is the first in what is left.
use Rattle.std.proofs.Common.{◌≡◌, length}
use Rattle.source_places.specs.Search.{past_semicolon}
use Rattle.source_places.proofs.search.past_semicolon.Given as goal

abbrev pub invariant-loop-sign : goal.invariant-loop-sign
invariant-loop-sign l = past_semicolon l.rest ≡ past_semicolon l.fn.signs

abbrev pub decreases-loop-sign : goal.decreases-loop-sign
decreases-loop-sign l = length l.rest
