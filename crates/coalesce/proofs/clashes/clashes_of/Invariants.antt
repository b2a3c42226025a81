use Rattle.std.proofs.Common.{◌≡◌}
use Rattle.coalesce.proofs.Finding.{AreClashesBelow}
use Rattle.coalesce.proofs.clashes.clashes_of.Given as goal

abbrev pub invariant-loop-x : goal.invariant-loop-x
invariant-loop-x l = record {
  nodes : l.reached.nodes ≡ l.flow.points;
  below : AreClashesBelow l.related.func.now.code l.related.marks.now l.x l.list.items;
}
