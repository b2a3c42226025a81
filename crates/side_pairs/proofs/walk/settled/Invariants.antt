use Rattle.std.proofs.Common.{◌≡◌}
use Rattle.side_laws.specs.Paired.{settled}
use Rattle.side_pairs.proofs.walk.settled.Given as goal

abbrev pub invariant-walk : goal.invariant-walk
invariant-walk l = settled l.code l.left l.point ≡ settled l.code l.fn.walker.left l.fn.walker.point

abbrev pub decreases-walk : goal.decreases-walk
decreases-walk l = l.left
