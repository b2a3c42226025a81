-- The functions of the files so far, whose names are not at fault.
use Rattle.std.proofs.Common.{◌≡◌, None, take}
use Rattle.import_linker.specs.Linked.{linked_from}
use Rattle.import_linker.specs.Names.{fault_from}
use Rattle.import_linker.proofs.linking.linked_tree.Given as goal

abbrev pub invariant-loop-number : goal.invariant-loop-number
invariant-loop-number l = record {
  funcs : l.funcs ≡ linked_from l.run l.paths 0 (take l.number l.sources);
  none : fault_from l.sources 0 (take l.number l.sources) ≡ None;
}
