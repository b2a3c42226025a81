-- The piece stands in what is left, or nowhere.
use Rattle.std.proofs.Common.{◌≡◌, length}
use Rattle.bril_explain.specs.Meaning.{contains}
use Rattle.bril_explain.proofs.meaning.contains.Given as goal

abbrev pub invariant-loop-others : goal.invariant-loop-others
invariant-loop-others l = contains l.piece l.rest ≡ contains l.fn.piece l.fn.line

abbrev pub decreases-loop-others : goal.decreases-loop-others
decreases-loop-others l = length l.rest
