use Rattle.std.proofs.Common.{◌≡◌, take}
use Rattle.bril_tree.specs.Numbered.{variable_names}
use Rattle.pass_make.proofs.fresh_names.taken_variables.Given as goal

abbrev pub invariant-loop-var : goal.invariant-loop-var
invariant-loop-var l = l.taken ≡ take l.var-index (variable_names l.func.vars)
