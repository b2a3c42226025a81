use Rattle.std.proofs.Common.{◌≡◌, length}
use Rattle.ssa_search.specs.accesses.Entries.{AreEntriesBefore}
use Rattle.ssa_search.proofs.accesses.entries.label_entries.Given as goal

abbrev pub invariant-loop-point : goal.invariant-loop-point
invariant-loop-point l = record {
  nodes : l.reached.nodes ≡ length l.code;
  before : AreEntriesBefore l.code l.point l.entries.items;
}
