-- What was written is in the writer.
use Rattle.std.proofs.Common.{◌≤◌, length, take}
use Rattle.std.specs.Io.KnownBytes.{Appends}
use Rattle.bril_outside.proofs.os_sink.write_first.Given as goal

abbrev pub invariant-loop : goal.invariant-loop
invariant-loop g l = (l.written ≤ length l.bytes) × Appends (g.W.Write.contents l.initial.out) (g.W.Write.contents l.out) (take l.written l.bytes)
