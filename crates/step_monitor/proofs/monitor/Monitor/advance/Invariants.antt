use Rattle.std.proofs.Common.{◌≡◌, ◌-◌, ◌≤◌, None}
use Rattle.step_monitor.proofs.Stopping.{Goes}
use Rattle.step_monitor.proofs.monitor.Monitor.advance.Given as goal

abbrev pub invariant-loop-taken : goal.invariant-loop-taken
invariant-loop-taken g l = record {
  within : l.taken ≤ l.words;
  goes : Goes l.any l.fn.self l.self l.taken (g.S.Sink.seen l.fn.out) (g.S.Sink.seen l.out);
  stop : l.self.stop ≡ None;
}

abbrev pub decreases-loop-taken : goal.decreases-loop-taken
decreases-loop-taken g l = l.words - l.taken
