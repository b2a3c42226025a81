use Rattle.std.proofs.Common.{All, take}
use Rattle.bril_tree.specs.declared.numbered_function.Func.{Func}
use Rattle.bril_tree.specs.Literals.{IsLiteralInRange}
use Rattle.bril_tree.proofs.literals.literals_are_in_range.Given as goal

abbrev pub invariant-loop-func : goal.invariant-loop-func
invariant-loop-func l = All (λ (f : Func). All IsLiteralInRange f.code) (take l.func-index l.prog.funcs)
