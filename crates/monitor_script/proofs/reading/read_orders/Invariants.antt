use Rattle.std.proofs.Common.{◌+◌, ◌≤◌, length}
use Rattle.monitor_script.proofs.Faults.{AreReadTo}
use Rattle.monitor_script.proofs.reading.read_orders.Given as goal

abbrev pub invariant-lines : goal.invariant-lines
invariant-lines l = record {
  read : AreReadTo l.source l.rest l.before l.orders;
  within : l.before + length l.rest ≤ length l.source;
}

abbrev pub decreases-lines : goal.decreases-lines
decreases-lines l = length l.rest
