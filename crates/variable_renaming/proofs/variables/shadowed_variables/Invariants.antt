use Rattle.variable_renaming.proofs.Shadowed.{AreMarked}
use Rattle.variable_renaming.proofs.variables.shadowed_variables.Given as goal

abbrev pub invariant-loop-item : goal.invariant-loop-item
invariant-loop-item l = AreMarked l.func l.item-index l.marks.items
