use Rattle.std.proofs.Common.{◌≡◌, false, map, take}
use Rattle.std.specs.List.{list_any}
use Rattle.bril_tree.specs.Operand.{Variable}
use Rattle.constant_pass.specs.constants.Known.{is_many}
use Rattle.constant_pass.specs.constants.Kept.{kept}
use Rattle.constant_pass.proofs.constants.answer.has_many.Given as goal

abbrev pub invariant-loop-x : goal.invariant-loop-x
invariant-loop-x l = list_any is_many (map (kept l.known) (map Variable (take l.x-index l.args))) ≡ false
