-- The names so far.
use Rattle.std.proofs.Common.{◌≡◌, [], None, take}
use Rattle.std.specs.Prelude.{flat_map}
use Rattle.bril_tree.specs.declared.import.Import.{Import}
use Rattle.import_linker.specs.Names.{names_taken, repeated_after}
use Rattle.import_linker.proofs.locals.local_names.Given as goal

abbrev pub invariant-loop-import : goal.invariant-loop-import
invariant-loop-import l = record {
  names : l.names ≡ flat_map (λ (i : Import). names_taken i.names) (take l.import-index l.source.tree.imports);
  none : repeated_after [] (flat_map (λ (i : Import). names_taken i.names) (take l.import-index l.source.tree.imports)) ≡ None;
}
