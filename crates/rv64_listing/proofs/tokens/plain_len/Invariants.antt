use Rattle.std.proofs.Common.{◌≡◌, true, take}
use Rattle.std.specs.List.{list_all}
use Rattle.rv64_listing.specs.Tokens.{is_plain_byte}
use Rattle.rv64_listing.proofs.tokens.plain_len.Given as goal

abbrev pub invariant-loop-i : goal.invariant-loop-i
invariant-loop-i l = list_all is_plain_byte (take l.i l.rest) ≡ true
