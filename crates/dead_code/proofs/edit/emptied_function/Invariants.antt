use Rattle.std.proofs.Common.{◌≡◌, length}
use Rattle.bril_tree.specs.Numbered.{nop_item}
use Rattle.pass_edit_laws.specs.plan.Marked.{with_nops}
use Rattle.dead_code.proofs.edit.emptied_function.Given as goal

abbrev pub invariant-loop-item : goal.invariant-loop-item
invariant-loop-item l = (l.point ≡ length l.yielded) × (l.code ≡ with_nops nop_item l.dead l.yielded)
