-- What is left has the same body.
use Rattle.std.proofs.Common.{◌≡◌, length}
use Rattle.source_places.specs.Search.{body}
use Rattle.source_places.proofs.search.body.Given as goal

abbrev pub invariant-loop-sign : goal.invariant-loop-sign
invariant-loop-sign l = body l.rest l.left ≡ body l.fn.signs l.fn.func

abbrev pub decreases-loop-sign : goal.decreases-loop-sign
decreases-loop-sign l = length l.rest
