-- The names so far.
use Rattle.std.proofs.Common.{◌≡◌, ◌++◌, None, take}
use Rattle.import_linker.specs.Names.{function_names, repeated_after}
use Rattle.import_linker.proofs.locals.add_functions.Given as goal

abbrev pub invariant-loop-function : goal.invariant-loop-function
invariant-loop-function l = record {
  names : l.names ≡ l.initial.names ++ function_names (take l.function-index l.functions);
  none : repeated_after l.initial.names (function_names (take l.function-index l.functions)) ≡ None;
}
