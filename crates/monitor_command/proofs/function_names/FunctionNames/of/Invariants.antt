use Rattle.std.proofs.Common.{◌≡◌, take}
use Rattle.bril_tree.specs.Numbered.{names_of_functions}
use Rattle.monitor_command.proofs.function_names.FunctionNames.of.Given as goal

-- the names so far
abbrev pub invariant-loop-func : goal.invariant-loop-func
invariant-loop-func l = l.names ≡ take l.func-index (names_of_functions l.program.funcs)
