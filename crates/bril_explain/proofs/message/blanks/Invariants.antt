-- The blanks so far.
use Rattle.std.proofs.Common.{◌≡◌, take}
use Rattle.std.specs.List.{flat_map}
use Rattle.bril_explain.specs.Message.{blank}
use Rattle.bril_explain.proofs.message.blanks.Given as goal

abbrev pub invariant-loop-byte : goal.invariant-loop-byte
invariant-loop-byte l = l.made ≡ flat_map blank (take l.byte-index l.bytes)
