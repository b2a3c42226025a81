-- The function is the one of this number in what is left.
use Rattle.std.proofs.Common.{◌≡◌, length}
use Rattle.bril_explain.specs.Kept.{function_in}
use Rattle.bril_explain.proofs.kept.function_in.Given as goal

abbrev pub invariant-loop-file : goal.invariant-loop-file
invariant-loop-file l = function_in l.rest l.left ≡ function_in l.fn.kept l.fn.func

abbrev pub decreases-loop-file : goal.decreases-loop-file
decreases-loop-file l = length l.rest
