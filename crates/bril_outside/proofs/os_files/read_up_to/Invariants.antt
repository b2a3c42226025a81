-- What was read so far is what the reader lost, and it isn't more than may be read.
use Rattle.std.specs.Prelude.{◌≤◌, length}
use Rattle.std.specs.Io.KnownBytes.{Consumes}
use Rattle.bril_outside.proofs.os_files.read_up_to.Given as goal

abbrev pub invariant-loop : goal.invariant-loop
invariant-loop g l = Consumes (g.R.Read.remaining l.initial.from) (g.R.Read.remaining l.from) l.bytes × (length l.bytes ≤ l.most)
