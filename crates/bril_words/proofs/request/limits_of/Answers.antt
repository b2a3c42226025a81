-- The limits of their numbers.
use Rattle.bril_words.proofs.Limits.{limits_are}
use Rattle.bril_words.proofs.request.limits_of.Goals as goal

pub returns : goal.returns
returns c = limits_are _
