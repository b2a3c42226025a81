use Rattle.variable_coloring.specs.Growing.{IsFirstIn}
use Rattle.variable_coloring.proofs.colors.colors_in.Given as goal

abbrev pub invariant-loop-x : goal.invariant-loop-x
invariant-loop-x l = IsFirstIn l.func l.x l.colors
