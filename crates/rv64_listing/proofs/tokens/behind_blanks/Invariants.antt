use Rattle.std.proofs.Common.{take}
use Rattle.rv64_listing.specs.Line.{AreBlank}
use Rattle.rv64_listing.proofs.tokens.behind_blanks.Given as goal

abbrev pub invariant-loop-i : goal.invariant-loop-i
invariant-loop-i l = AreBlank (take l.i l.rest)
