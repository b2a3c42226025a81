use Rattle.std.proofs.Common.{◌≡◌, length}
use Rattle.roolvist_lib.specs.Given.{pieces_of}
use Rattle.roolvist_lib.proofs.Pieces.{behind}
use Rattle.roolvist_lib.proofs.given.cut.Given as goal

abbrev pub invariant-pieces : goal.invariant-pieces
invariant-pieces l = behind l.pieces (pieces_of l.rest l.left) ≡ pieces_of l.bytes l.lengths

abbrev pub decreases-pieces : goal.decreases-pieces
decreases-pieces l = length l.left
