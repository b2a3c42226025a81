-- The functions so far, whose callees all are there.
use Rattle.std.proofs.Common.{◌≡◌, ◌++◌, None, map, take}
use Rattle.import_linker.specs.Linked.{beside, renamed_function}
use Rattle.import_linker.specs.Names.{callees, first_unknown}
use Rattle.import_linker.proofs.renaming.rename_functions.Given as goal

abbrev pub invariant-loop-function : goal.invariant-loop-function
invariant-loop-function l = record {
  into : l.into ≡ l.initial.into ++ map (renamed_function l.run l.number (beside l.names l.spelled)) (take l.function-index l.functions);
  none : first_unknown l.names (callees (take l.function-index l.functions)) ≡ None;
}
