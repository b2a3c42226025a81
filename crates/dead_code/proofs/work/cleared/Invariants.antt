use Rattle.std.proofs.Common.{◌≡◌, ◌+◌, length}
use Rattle.dead_code.specs.Work.{IsWork, reads_left, remaining}
use Rattle.dead_code.proofs.work.cleared.Given as goal

abbrev pub invariant-loop-location : goal.invariant-loop-location
invariant-loop-location l = record {
  nodes : l.reached.nodes ≡ l.flow.points;
  count : length l.work.queued.items ≡ l.assignments.locations;
  work : IsWork l.func.code l.work.dead.items l.work.queue.items l.work.queued.items (λ n. ⊥);
}

abbrev pub decreases-loop-location : goal.decreases-loop-location
decreases-loop-location l = reads_left (remaining l.func.code l.work.dead.items) + length l.work.queue.items
