use Rattle.std.proofs.Common.{◌≡◌, length, take}
use Rattle.live_sets.proofs.Sets.{AreMarked}
use Rattle.live_sets.proofs.marked.marks_of.Given as goal

abbrev pub invariant-loop-point : goal.invariant-loop-point
invariant-loop-point l = record {
  long : length l.marks.items ≡ l.count;
  marked : AreMarked l.marks.items (take l.point-index l.found);
}
