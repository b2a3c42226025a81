use Rattle.std.proofs.Common.{◌≡◌, map, take}
use Rattle.bril_tree.specs.Numbered.{item_tree, nop_item}
use Rattle.pass_edit_laws.specs.plan.Marked.{with_nops}
use Rattle.variable_renaming.proofs.edit.made_items.Given as goal

abbrev pub invariant-loop-point : goal.invariant-loop-point
invariant-loop-point l = l.code ≡ with_nops nop_item l.marks (map (item_tree l.funcs l.vars l.func.labels) (take l.point l.func.code))
