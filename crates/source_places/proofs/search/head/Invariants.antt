-- What is left has the same head.
use Rattle.std.proofs.Common.{◌≡◌, [], length}
use Rattle.source_places.specs.Search.{head}
use Rattle.source_places.proofs.search.head.Given as goal

abbrev pub invariant-loop-sign : goal.invariant-loop-sign
invariant-loop-sign l = head l.rest l.left l.found ≡ head l.fn.signs l.fn.func []

abbrev pub decreases-loop-sign : goal.decreases-loop-sign
decreases-loop-sign l = length l.rest
