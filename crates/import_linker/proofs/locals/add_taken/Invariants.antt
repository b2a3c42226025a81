-- The names so far.
use Rattle.std.proofs.Common.{◌≡◌, ◌++◌, None, take}
use Rattle.import_linker.specs.Names.{names_taken, repeated_after}
use Rattle.import_linker.proofs.locals.add_taken.Given as goal

abbrev pub invariant-loop-function : goal.invariant-loop-function
invariant-loop-function l = record {
  names : l.names ≡ l.initial.names ++ names_taken (take l.function-index l.taken);
  none : repeated_after l.initial.names (names_taken (take l.function-index l.taken)) ≡ None;
}
