use Rattle.std.proofs.Common.{take}
use Rattle.monitor_script.specs.Form.{Lacks}
use Rattle.monitor_script.proofs.lines.split_at_byte.Given as goal

abbrev pub invariant-loop-i : goal.invariant-loop-i
invariant-loop-i l = Lacks l.byte (take l.i l.bytes)
