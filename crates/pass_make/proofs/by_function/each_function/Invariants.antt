use Rattle.pass_make.specs.Each.{AreMadeOf, IsGivenFor}
use Rattle.pass_make.proofs.by_function.each_function.Given as goal

abbrev pub invariant-loop-number : goal.invariant-loop-number
invariant-loop-number g l = AreMadeOf (IsGivenFor (goal.E-post g l.edit) l.prog) l.prog l.number l.funcs
