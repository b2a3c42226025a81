use Rattle.std.proofs.Common.{◌≡◌, map, drop}
use Rattle.bril_tree.specs.Typing.{are_typed, variable_type}
use Rattle.bril_checker.proofs.operands.are_typed.Given as goal

-- all is typed where the arguments that are left are
abbrev pub invariant-loop-place : goal.invariant-loop-place
invariant-loop-place l =
    are_typed (map (variable_type l.func.vars) (drop l.place l.args)) (map (λ v. v.ty) (drop l.place l.parameters))
    ≡ are_typed (map (variable_type l.func.vars) l.args) (map (λ v. v.ty) l.parameters)
