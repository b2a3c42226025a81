use Rattle.variable_coloring.specs.Growing.{IsSecondIn}
use Rattle.variable_coloring.proofs.colors.Colors.look_again_at_all.Given as goal

abbrev pub invariant-loop-x : goal.invariant-loop-x
invariant-loop-x l = IsSecondIn l.func l.x l.late.list l.self
