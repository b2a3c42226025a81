use Rattle.std.proofs.Common.{◌≡◌, take}
use Rattle.bril_tree.specs.Numbered.{names_of_functions}
use Rattle.variable_renaming.proofs.tree.function_names.Given as goal

abbrev pub invariant-loop-func : goal.invariant-loop-func
invariant-loop-func l = l.names ≡ names_of_functions (take l.func-index l.prog.funcs)
