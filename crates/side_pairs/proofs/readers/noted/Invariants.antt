use Rattle.std.proofs.Common.{take}
use Rattle.side_pairs.specs.Readers.{AreReaders}
use Rattle.side_pairs.proofs.readers.noted.Given as goal

abbrev pub invariant-loop-read : goal.invariant-loop-read
invariant-loop-read l = AreReaders (take l.read-index l.reads) l.readers.items
