use Rattle.std.proofs.Common.{length}
use Rattle.roolvist_lib.proofs.Held.{AreAdded}
use Rattle.roolvist_lib.proofs.given.files.Given as goal

abbrev pub invariant-files : goal.invariant-files
invariant-files l = AreAdded l.pieces l.left l.files

abbrev pub decreases-files : goal.decreases-files
decreases-files l = length l.left
