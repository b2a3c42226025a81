use Rattle.std.proofs.Common.{◌≡◌, length}
use Rattle.ssa_exit.specs.Fresh.{shadow_names}
use Rattle.ssa_exit.specs.Unssaed.{left_items}
use Rattle.ssa_exit.proofs.edit.left_function.Given as goal

abbrev pub invariant-loop-item : goal.invariant-loop-item
invariant-loop-item l = (l.point ≡ length l.yielded) × (l.code ≡ left_items l.func (shadow_names l.stem l.func.vars) l.func.code l.yielded)
