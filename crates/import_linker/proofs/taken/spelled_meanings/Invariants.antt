-- The names of the functions of the imports so far, which all are there, and the numbers of the files that were looked up.
use Rattle.std.proofs.Common.{◌≡◌, None, map, take}
use Rattle.std.specs.Prelude.{flat_map}
use Rattle.import_linker.specs.Linked.{spelled}
use Rattle.import_linker.specs.Looked.{AreNumbers}
use Rattle.import_linker.specs.Names.{functions_of}
use Rattle.import_linker.specs.Tables.{first_absent}
use Rattle.import_linker.proofs.taken.spelled_meanings.Given as goal

abbrev pub invariant-loop-import : goal.invariant-loop-import
invariant-loop-import l = record {
  names : l.names ≡ map (spelled l.run) (flat_map (functions_of l.paths l.source.path) (take l.import-index l.source.tree.imports));
  none : first_absent l.tables (flat_map (functions_of l.paths l.source.path) (take l.import-index l.source.tree.imports)) ≡ None;
  files : AreNumbers l.paths l.source.path l.files.paths l.files.numbers;
}
