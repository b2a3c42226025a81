use Rattle.std.proofs.Common.{◌≤◌, ◌-◌, length}
use Rattle.trace_recorder.proofs.AllEntries.{AreGone}
use Rattle.trace_recorder.proofs.paths.Paths.next_front.Given as goal

abbrev pub invariant-ended : goal.invariant-ended
invariant-ended l = record {
  gone : AreGone l.passing l.self.items l.self.laid l.front l.self.held.items;
  within : l.front ≤ length l.self.held.items;
}

abbrev pub decreases-ended : goal.decreases-ended
decreases-ended l = length l.self.held.items - l.front
