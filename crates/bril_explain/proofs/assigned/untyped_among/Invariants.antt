-- The first of what is left is the first of all.
use Rattle.std.proofs.Common.{◌≡◌, length}
use Rattle.bril_explain.specs.Words.{untyped_among}
use Rattle.bril_explain.proofs.assigned.untyped_among.Given as goal

abbrev pub invariant-loop-arg : goal.invariant-loop-arg
invariant-loop-arg l = untyped_among l.vars l.rest ≡ untyped_among l.vars l.fn.args

abbrev pub decreases-loop-arg : goal.decreases-loop-arg
decreases-loop-arg l = length l.rest
