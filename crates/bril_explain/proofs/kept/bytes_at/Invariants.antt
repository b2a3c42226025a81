-- What is left has the same bytes at the path.
use Rattle.std.proofs.Common.{◌≡◌, length}
use Rattle.bril_explain.specs.Kept.{bytes_at}
use Rattle.bril_explain.proofs.kept.bytes_at.Given as goal

abbrev pub invariant-loop-file : goal.invariant-loop-file
invariant-loop-file l = bytes_at l.rest l.path ≡ bytes_at l.fn.kept l.path

abbrev pub decreases-loop-file : goal.decreases-loop-file
decreases-loop-file l = length l.rest
