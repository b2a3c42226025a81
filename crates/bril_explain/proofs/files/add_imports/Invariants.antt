-- The paths of the imports so far are known.
use Rattle.std.proofs.Common.{◌≡◌, ◌≤◌, length, take}
use Rattle.import_linker.specs.Order.{all_added, most_files, named_in}
use Rattle.bril_explain.proofs.files.add_imports.Given as goal

abbrev pub invariant-loop-import : goal.invariant-loop-import
invariant-loop-import l = record {
  known : l.known ≡ all_added l.initial.known (named_in l.importer (take l.import-index l.imports));
  few : length l.known ≤ most_files;
}
