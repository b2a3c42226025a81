use Rattle.std.proofs.Common.{◌+◌, ◌≤◌, length}
use Rattle.monitor_script.proofs.Faults.{IsReadTo}
use Rattle.monitor_script.proofs.reading.look_at_lines.Given as goal

abbrev pub invariant-lines : goal.invariant-lines
invariant-lines l = record {
  read : IsReadTo l.source l.rest l.before;
  within : l.before + length l.rest ≤ length l.source;
}

abbrev pub decreases-lines : goal.decreases-lines
decreases-lines l = length l.rest
