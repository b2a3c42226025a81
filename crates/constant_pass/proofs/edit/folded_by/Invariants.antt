use Rattle.std.proofs.Common.{◌≡◌, length}
use Rattle.constant_pass.specs.constants.Kept.{told}
use Rattle.constant_pass.specs.Edit.{AreMade}
use Rattle.constant_pass.proofs.edit.folded_by.Given as goal

abbrev pub invariant-loop-item : goal.invariant-loop-item
invariant-loop-item l = (l.point ≡ length l.yielded) × AreMade l.func (told l.table) 0 l.yielded l.code
