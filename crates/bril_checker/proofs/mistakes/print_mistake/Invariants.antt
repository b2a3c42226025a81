use Rattle.std.proofs.Common.{◌≡◌, map, drop}
use Rattle.bril_tree.specs.Typing.{variable_type, print_fault}
use Rattle.bril_checker.proofs.mistakes.print_mistake.Given as goal

-- what is wrong is wrong with the arguments that are left
abbrev pub invariant-loop-x : goal.invariant-loop-x
invariant-loop-x l =
    print_fault (map (variable_type l.func.vars) (drop l.x-index l.args)) ≡ print_fault (map (variable_type l.func.vars) l.args)
