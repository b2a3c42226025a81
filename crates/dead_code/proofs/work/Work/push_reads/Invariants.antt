use Rattle.std.proofs.Common.{◌≡◌, take}
use Rattle.dead_code.specs.Work.{Queues}
use Rattle.dead_code.proofs.Queueing.{IsAmong}
use Rattle.dead_code.proofs.work.Work.push_reads.Given as goal

abbrev pub invariant-loop-read : goal.invariant-loop-read
invariant-loop-read l = record {
  dead : l.self.dead.items ≡ l.fn.self.dead.items;
  queued : Queues (IsAmong (take l.read-index l.read-items)) l.read-index l.fn.self.queue.items l.self.queue.items l.fn.self.queued.items l.self.queued.items;
}
