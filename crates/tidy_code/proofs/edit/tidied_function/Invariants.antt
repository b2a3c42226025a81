use Rattle.std.proofs.Common.{◌≡◌, length}
use Rattle.tidy_code.specs.Tidied.{AreStaying}
use Rattle.tidy_code.proofs.edit.tidied_function.Given as goal

abbrev pub invariant-loop-item : goal.invariant-loop-item
invariant-loop-item l = (l.point ≡ length l.yielded) × AreStaying l.func.code 0 l.yielded l.code
