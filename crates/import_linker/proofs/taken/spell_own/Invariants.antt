-- The names so far.
use Rattle.std.proofs.Common.{◌≡◌, ◌++◌, map, take}
use Rattle.import_linker.specs.Linked.{spelled}
use Rattle.import_linker.specs.Names.{own_functions}
use Rattle.import_linker.proofs.taken.spell_own.Given as goal

abbrev pub invariant-loop-function : goal.invariant-loop-function
invariant-loop-function l = l.names ≡ l.initial.names ++ map (spelled l.run) (own_functions l.number (take l.function-index l.functions))
