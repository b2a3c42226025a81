-- The items so far, whose functions all are there.
use Rattle.std.proofs.Common.{◌≡◌, None, map, take}
use Rattle.import_linker.specs.Linked.{beside, renamed_item}
use Rattle.import_linker.specs.Names.{first_unknown, item_callees}
use Rattle.import_linker.proofs.renaming.renamed_items.Given as goal

abbrev pub invariant-loop-item : goal.invariant-loop-item
invariant-loop-item l = record {
  made : l.made ≡ map (renamed_item (beside l.names l.spelled)) (take l.item-index l.items);
  none : first_unknown l.names (item_callees (take l.item-index l.items)) ≡ None;
}
