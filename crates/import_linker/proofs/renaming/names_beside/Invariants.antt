-- The names so far, which all are there.
use Rattle.std.proofs.Common.{◌≡◌, None, map, take}
use Rattle.import_linker.specs.Linked.{beside}
use Rattle.import_linker.specs.Names.{first_unknown}
use Rattle.import_linker.proofs.renaming.names_beside.Given as goal

abbrev pub invariant-loop-name : goal.invariant-loop-name
invariant-loop-name l = record {
  made : l.made ≡ map (beside l.names l.spelled) (take l.name-index l.wanted);
  none : first_unknown l.names (take l.name-index l.wanted) ≡ None;
}
