use Rattle.variable_renaming.specs.Made.{MarksFirst}
use Rattle.variable_renaming.proofs.edit.self_copies.Given as goal

abbrev pub invariant-loop-point : goal.invariant-loop-point
invariant-loop-point l = MarksFirst l.func l.class l.point l.marks.items
