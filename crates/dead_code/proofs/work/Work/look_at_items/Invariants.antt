use Rattle.std.proofs.Common.{◌≡◌, ◌+◌, ◌≤◌, length, take}
use Rattle.std.specs.List.{All}
use Rattle.dead_code.specs.Work.{IsLookedAt, IsLooking, reads_left, remaining}
use Rattle.dead_code.proofs.work.Work.look_at_items.Given as goal

abbrev pub invariant-loop-item : goal.invariant-loop-item
invariant-loop-item l = record {
  count : length l.self.queued.items ≡ length l.fn.self.queued.items;
  looking : IsLooking l.func.code l.self.dead.items l.self.queue.items l.self.queued.items l.location l.reached.found;
  looked : All (IsLookedAt l.self.dead.items l.reached.found) (take l.item-index l.items);
  less : reads_left (remaining l.func.code l.self.dead.items) + length l.self.queue.items ≤ reads_left (remaining l.func.code l.fn.self.dead.items) + length l.fn.self.queue.items;
}
