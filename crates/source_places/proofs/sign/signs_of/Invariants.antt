-- The signs so far.
use Rattle.std.proofs.Common.{◌≡◌, map, take}
use Rattle.source_places.specs.Sign.{sign_in}
use Rattle.source_places.proofs.sign.signs_of.Given as goal

abbrev pub invariant-loop-token : goal.invariant-loop-token
invariant-loop-token l = l.signs ≡ map (sign_in l.source) (take l.token-index l.tokens)
