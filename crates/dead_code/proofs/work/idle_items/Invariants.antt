use Rattle.std.proofs.Common.{◌≡◌, length}
use Rattle.dead_code.proofs.Clearing.{IsEmptied}
use Rattle.dead_code.proofs.work.idle_items.Given as goal

abbrev pub invariant-loop-point : goal.invariant-loop-point
invariant-loop-point l = record {
  long : length l.dead.items ≡ l.point;
  emptied : IsEmptied l.func.code l.dead.items;
}
