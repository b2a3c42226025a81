-- The names so far, which all are there.
use Rattle.std.proofs.Common.{◌≡◌, ◌++◌, [], None, get_or, map, take}
use Rattle.import_linker.specs.Linked.{spelled}
use Rattle.import_linker.specs.Names.{taken_functions}
use Rattle.import_linker.specs.Tables.{first_outside}
use Rattle.import_linker.proofs.taken.spell_taken.Given as goal

abbrev pub invariant-loop-function : goal.invariant-loop-function
invariant-loop-function l = record {
  names : l.names ≡ l.initial.names ++ map (spelled l.run) (taken_functions l.file (take l.function-index l.taken));
  none : first_outside (get_or l.tables l.file []) (take l.function-index l.taken) ≡ None;
}
